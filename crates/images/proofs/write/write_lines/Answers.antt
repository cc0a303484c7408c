use Rattle.tree.specs.Image.{lines_below, lines_bits}
use Rattle.images.proofs.Adding.{written_none}
use Rattle.images.proofs.LinesWritten.{room_for_line, line_written}
use Rattle.images.proofs.write.write_lines.Goals as goal

pub loop-number-init : goal.loop-number-init
unfolding lines_below lines_bits
loop-number-init c = written_none _ _

pub write_line-next-requires : goal.write_line-next-requires
write_line-next-requires c = room_for_line _ c.args.tree.is_legal c.loop-number-test.true c.loop-number.invariant c.requires c.loop-number.auto.buffer

pub loop-number-preserved : goal.loop-number-preserved
loop-number-preserved c = line_written _ c.args.tree.is_legal c.loop-number-test.true c.loop-number.invariant c.write_line-next.ensures
