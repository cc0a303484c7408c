use native.Mathlib.Numerals.{add-one}
use mathlib.Core.Path.{sym}
use Rattle.joining.proofs.LinesThrough.{is_through, not_through}
use Rattle.joining.proofs.WeightBelow.{weight_of_none, other_way, same_weight, another_weight, no_line_through, one_weight}
use Rattle.joining.proofs.weight_below.Goals as goal
use Rattle.joining.proofs.weight_below.Goals.{then-level-common+else-is_another, else-level-common}

pub loop-number-init : goal.loop-number-init
loop-number-init c = weight_of_none _ _ _

pub returns-then-is_another : goal.returns-then-is_another
returns-then-is_another c =
    let goes = is_through _ _ _ c.if-level-common.true in
    sym (another_weight c.loop-number.invariant c.requires.level c.requires.rest c.loop-number-test.true goes (rw add-one at c.weight-w.ensures) (c.is_another.ensures.another c.if-is_another.true))

pub loop-number-preserved : goal.loop-number-preserved
loop-number-preserved c =
    let below = c.loop-number-test.true in
    let before = c.loop-number.invariant in
    elim c.if-level-common.branch [
      | then-level-common+else-is_another w ↦
          let goes = is_through _ _ _ w.if-level-common.true in
          rw w.v-is (same_weight before below goes (rw add-one at w.weight-w.ensures) (w.is_another.ensures.same w.if-is_another.false))
      | else-level-common w ↦ rw w.v-is (other_way before below (not_through _ _ _ w.if-level-common.false))
    ]

pub returns-then-v-eq0 : goal.returns-then-v-eq0
returns-then-v-eq0 c = sym (no_line_through c.loop-number.invariant c.requires.level c.requires.rest c.loop-number-test.false c.if-v-eq0.true)

pub returns : goal.returns
returns c = sym (one_weight c.loop-number.invariant c.requires.level c.requires.rest c.loop-number-test.false c.if-v-eq0.false)
