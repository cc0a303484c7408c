-- `images::write::write_image` meets its contract: the number of lines and then the lines, where the buffer has the bytes for them.
-- Assumes nothing.
use native.Mathlib.Omega.{arith}
use Rattle.tree.specs.Image.{lines_below}
use Rattle.bridge.specs.Rows.{tree_of_rows}
use Rattle.images.proofs.ImageBits.{image_bits_length}
use Rattle.images.proofs.LinesCounted.{counted_small}
use Rattle.images.proofs.ImageAdded.{buffer_too_short, image_written}
use Rattle.images.proofs.write.write_image.Goals as goal

pub returns-then-buffer-length : goal.returns-then-buffer-length
returns-then-buffer-length c = buffer_too_short _ _ c.size_of-size.ensures c.div_ceil-length.ensures c.if-buffer-length.true

pub put_number-requires : goal.put_number-requires
put_number-requires c =
    omega (arith, counted_small _ c.args.tree.is_legal c.size_of-size.ensures (omega arith), image_bits_length (lines_below 64 (tree_of_rows c.args.tree.rows.now)))

pub write_lines-requires : goal.write_lines-requires
write_lines-requires c =
    omega (arith, counted_small _ c.args.tree.is_legal c.size_of-size.ensures (omega arith), image_bits_length (lines_below 64 (tree_of_rows c.args.tree.rows.now)))

pub returns : goal.returns
returns c = image_written _ _ c.size_of-size.ensures c.div_ceil-length.ensures _ _ c.put_number.ensures c.write_lines.ensures c.if-buffer-length.false
