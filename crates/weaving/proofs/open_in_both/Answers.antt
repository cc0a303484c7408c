use Prim.Native.Nat.{◌≤◌}
use native.Mathlib.Nat.{lt_of_lt_of_le}
use native.Mathlib.Omega.{arith}
use mathlib.Core.Path.{sym, ◌∙◌}
use Rattle.std.proofs.lemmas.Bool.{and_from, and_left, and_right}
use Rattle.tree.proofs.Searching.{some_below_at, some_below_none}
use Rattle.tree.specs.Weaving.{open_in_both}
use Rattle.paths.proofs.AllBelow.{so_far_none, so_far_more}
use Rattle.bridge.proofs.AskingRecords.{open_by_rows}
use Rattle.weaving.proofs.open_in_both.Goals as goal
use Rattle.weaving.proofs.open_in_both.Goals.{else-not-is_closed-via-then-not-is_closed+else-not-is_closed-2, else-not-is_closed-via-else-not-is_closed}

pub loop-number-init : goal.loop-number-init
loop-number-init c = so_far_none _ _

pub returns-then-not-is_closed-2 : goal.returns-then-not-is_closed-2
unfolding open_in_both
returns-then-not-is_closed-2 c =
    let number : c.loop-number.number ≤ 63 = omega arith in
    let open_a = open_by_rows _ c.args.a.is_legal _ number _ (sym c.is_closed.ensures ∙ c.if-not-is_closed.true) in
    let open_b = open_by_rows _ c.args.b.is_legal _ number _ (sym c.is_closed-then-not-is_closed.ensures ∙ c.if-not-is_closed-2.true) in
    sym (some_below_at 64 _ _ c.loop-number-test.true (and_from _ _ open_a open_b))

pub loop-number-preserved : goal.loop-number-preserved
loop-number-preserved c =
    let number : c.loop-number.number ≤ 63 = omega arith in
    so_far_more c.loop-number.invariant c.loop-number-test.true (elim c.else-not-is_closed.branch [
      | else-not-is_closed-via-then-not-is_closed+else-not-is_closed-2 w ↦
          and_right _ _ (open_by_rows _ c.args.b.is_legal _ number _ (sym w.is_closed-then-not-is_closed.ensures ∙ w.if-not-is_closed-2.false))
      | else-not-is_closed-via-else-not-is_closed w ↦
          and_left _ _ (open_by_rows _ c.args.a.is_legal _ number _ (sym c.is_closed.ensures ∙ w.if-not-is_closed.false))
    ])

pub returns : goal.returns
unfolding open_in_both
returns c = sym (some_below_none 64 _ (λ L below. c.loop-number.invariant.gave L (lt_of_lt_of_le below c.loop-number-test.false)))
