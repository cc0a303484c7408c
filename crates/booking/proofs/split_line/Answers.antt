use Rattle.booking.proofs.SplitPath.{moved_none, moved_more, split_written}
use Rattle.booking.proofs.split_line.Goals as goal

pub loop-k-init : goal.loop-k-init
loop-k-init c = moved_none c.told-rows c.requires

pub loop-k-preserved : goal.loop-k-preserved
loop-k-preserved c = moved_more c.loop-k.invariant c.args.line.below_64 c.loop-k-test.true c.loop-k.auto.k c.row-moved.ensures c.put_row.ensures

pub returns : goal.returns
returns c =
    rw (c.put_row-3.ensures, c.put_row-2.ensures)
    (split_written c.loop-k.invariant c.args.line.below_64 c.loop-k-test.false c.requires c.told-rows c.row-before.ensures)
