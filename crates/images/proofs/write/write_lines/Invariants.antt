-- `images::write::write_lines` meets its contract. The invariant: the lines passed were written.
-- Assumes nothing.
use Rattle.tree.specs.Image.{lines_below, lines_bits}
use Rattle.bridge.specs.Rows.{tree_of_rows}
use Rattle.images.specs.Writing.{BitsWritten}
use Rattle.images.proofs.write.write_lines.Given as goal

abbrev pub invariant-loop-number : goal.invariant-loop-number
invariant-loop-number l = BitsWritten l.at (lines_bits (lines_below l.number (tree_of_rows l.tree.rows.now))) l.initial.buffer l.buffer l.next
