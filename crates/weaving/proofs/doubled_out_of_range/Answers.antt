use Prim.Native.Nat.{◌≤◌}
use native.Mathlib.Nat.{lt_of_lt_of_le}
use native.Mathlib.Omega.{arith}
use mathlib.Core.Path.{sym, ◌∙◌}
use Rattle.std.proofs.lemmas.Bool.{and_from, and_left, and_right}
use Rattle.tree.proofs.Searching.{some_below_at, some_below_none}
use Rattle.tree.specs.Weaving.{doubled_out_of_range}
use Rattle.paths.proofs.AllBelow.{so_far_none, so_far_more}
use Rattle.bridge.proofs.AskingRecords.{open_by_rows}
use Rattle.weaving.proofs.DoubledPeriods.{doubled_passes, doubled_in_range}
use Rattle.weaving.proofs.doubled_out_of_range.Goals as goal
use Rattle.weaving.proofs.doubled_out_of_range.Goals.{else-not-is_closed-via-then-not-is_closed+else-from-gt4095, else-not-is_closed-via-else-not-is_closed}

pub loop-number-init : goal.loop-number-init
loop-number-init c = so_far_none _ _

pub returns-then-from-gt4095 : goal.returns-then-from-gt4095
unfolding doubled_out_of_range
returns-then-from-gt4095 c =
    let number : c.loop-number.number ≤ 63 = omega arith in
    let is_open = open_by_rows _ c.args.tree.is_legal _ number _ (sym c.is_closed.ensures ∙ c.if-not-is_closed.true) in
    let passes = doubled_passes _ c.args.tree.is_legal _ c.loop-number-test.true (c.from.ensures ∙ c.times_of.ensures.0) c.if-from-gt4095.true in
    sym (some_below_at 64 _ _ c.loop-number-test.true (and_from _ _ is_open passes))

pub loop-number-preserved : goal.loop-number-preserved
loop-number-preserved c =
    let number : c.loop-number.number ≤ 63 = omega arith in
    so_far_more c.loop-number.invariant c.loop-number-test.true (elim c.else-not-is_closed.branch [
      | else-not-is_closed-via-then-not-is_closed+else-from-gt4095 w ↦
          and_right _ _ (doubled_in_range _ c.args.tree.is_legal _ c.loop-number-test.true (w.from.ensures ∙ w.times_of.ensures.0) w.if-from-gt4095.false)
      | else-not-is_closed-via-else-not-is_closed w ↦
          and_left _ _ (open_by_rows _ c.args.tree.is_legal _ number _ (sym c.is_closed.ensures ∙ w.if-not-is_closed.false))
    ])

pub returns : goal.returns
unfolding doubled_out_of_range
returns c = sym (some_below_none 64 _ (λ L below. c.loop-number.invariant.gave L (lt_of_lt_of_le below c.loop-number-test.false)))
