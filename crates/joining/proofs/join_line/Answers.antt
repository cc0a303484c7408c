use native.Mathlib.Omega.{arith}
use native.Mathlib.Numerals.{add-one}
use Rattle.joining.proofs.JoinPath.{level_below_10, rows_joinable, moved_up_none, moved_up_more, join_written}
use Rattle.joining.proofs.join_line.Goals as goal

pub row-node-requires : goal.row-node-requires
row-node-requires c = omega (arith, level_below_10 c.requires)

pub overflow_add-level : goal.overflow_add-level
overflow_add-level c = omega (arith, level_below_10 c.requires)

pub row-child-requires : goal.row-child-requires
row-child-requires c = omega (arith, level_below_10 c.requires)

pub overflow_step-k : goal.overflow_step-k
overflow_step-k c = omega (arith, level_below_10 c.requires)

pub loop-k-init : goal.loop-k-init
loop-k-init c = moved_up_none _ _ _ c.told-rows

pub loop-k-preserved : goal.loop-k-preserved
loop-k-preserved c = moved_up_more c.loop-k.invariant c.args.line.below_64 c.loop-k-test.true c.row-moved.ensures c.put_row.ensures

pub joined-requires : goal.joined-requires
joined-requires c = rows_joinable c.requires c.row-node.ensures (rw add-one at c.row-child.ensures)

pub put_row-requires-3 : goal.put_row-requires-3
put_row-requires-3 c = omega (arith, level_below_10 c.requires)

pub returns : goal.returns
returns c =
    rw (c.put_row-3.ensures, c.put_row-2.ensures, c.joined.ensures)
    (join_written c.loop-k.invariant c.args.line.below_64 c.loop-k-test.false c.requires c.told-rows c.row-node.ensures (rw add-one at c.row-child.ensures))
