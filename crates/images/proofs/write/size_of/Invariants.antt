-- `images::write::size_of` meets its contract. The invariant: the lines passed were counted, and the bits of their image.
-- Assumes nothing.
use Rattle.tree.specs.Image.{lines_below}
use Rattle.bridge.specs.Rows.{tree_of_rows}
use Rattle.images.specs.Writing.{Counted}
use Rattle.images.proofs.write.size_of.Given as goal

abbrev pub invariant-loop-number : goal.invariant-loop-number
invariant-loop-number l = Counted (lines_below l.number (tree_of_rows l.tree.rows.now)) l.size
