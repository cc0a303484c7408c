use native.Mathlib.Omega.{arith}
use Rattle.tree.specs.Image.{lines_below}
use Rattle.paths.proofs.PathRest.{path_length_at_most_11}
use Rattle.images.proofs.LinesCounted.{none_counted, counted_closed, counted_open, counted_small}
use Rattle.images.proofs.write.size_of.Goals as goal
use Rattle.images.proofs.write.size_of.Goals.{then-rows-ne0, else-rows-ne0}

pub loop-number-init : goal.loop-number-init
unfolding lines_below
loop-number-init c = none_counted

pub overflow_add-size : goal.overflow_add-size
overflow_add-size c = omega (arith, counted_small _ c.args.tree.is_legal c.loop-number.invariant (omega arith))

pub overflow_mul-size : goal.overflow_mul-size
overflow_mul-size c = omega (arith, path_length_at_most_11 c.args.tree.rows.now c.loop-number.number)

pub overflow_add-size-then-rows-ne0 : goal.overflow_add-size-then-rows-ne0
overflow_add-size-then-rows-ne0 c = omega (arith, path_length_at_most_11 c.args.tree.rows.now c.loop-number.number)

pub overflow_add-size-then-rows-ne0-2 : goal.overflow_add-size-then-rows-ne0-2
overflow_add-size-then-rows-ne0-2 c = omega (arith, path_length_at_most_11 c.args.tree.rows.now c.loop-number.number, counted_small _ c.args.tree.is_legal c.loop-number.invariant (omega arith))

pub loop-number-preserved : goal.loop-number-preserved
loop-number-preserved c =
    elim c.if-rows-ne0.branch [
      | then-rows-ne0 w ↦ rw w.size-is (counted_open _ c.args.tree.is_legal c.loop-number.invariant c.loop-number-test.true c.path_length-rows.ensures w.if-rows-ne0.true)
      | else-rows-ne0 w ↦ rw w.size-is (counted_closed _ c.args.tree.is_legal c.loop-number.invariant c.loop-number-test.true c.path_length-rows.ensures w.if-rows-ne0.false)
    ]
