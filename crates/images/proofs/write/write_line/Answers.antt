-- `images::write::write_line` meets its contract: a closed line has no bits, and those of an open one are its two fields and its path.
-- Assumes nothing.
use Prim.Native.Nat.{◌+◌}
use native.Mathlib.Omega.{arith}
use mathlib.Core.Path.{refl, sym, ◌∙◌}
use Rattle.tree.specs.Record.{path_at}
use Rattle.paths.proofs.PathRest.{path_length_at_most_11}
use Rattle.images.proofs.Adding.{written_none, written_both, written_field}
use Rattle.images.proofs.ImageBits.{path_bits_length}
use Rattle.images.proofs.LinesWritten.{closed_line_bits, open_line_bits, open_line_length}
use Rattle.images.proofs.write.write_line.Goals as goal

pub returns-then-count-eq0 : goal.returns-then-count-eq0
returns-then-count-eq0 c = rw (closed_line_bits c.args.line.number _ (sym c.path_length-count.ensures ∙ c.if-count-eq0.true)) (written_none _ _)

pub put_number-requires : goal.put_number-requires
put_number-requires c = omega (arith, open_line_length c.args.line.number (path_at c.args.tree.rows.now c.args.line.number) (omega arith))

pub put_number-requires-2 : goal.put_number-requires-2
put_number-requires-2 c =
    omega (arith, open_line_length c.args.line.number (path_at c.args.tree.rows.now c.args.line.number) (omega arith), path_length_at_most_11 c.args.tree.rows.now c.args.line.number)

pub write_path-requires-clause-room : goal.write_path-requires-clause-room
write_path-requires-clause-room c =
    omega (arith, open_line_length c.args.line.number (path_at c.args.tree.rows.now c.args.line.number) (omega arith), path_bits_length (path_at c.args.tree.rows.now c.args.line.number))

pub returns : goal.returns
returns c =
    let number = written_field c.args.at 6 c.args.line.number (c.args.at + 6) c.put_number.ensures refl in
    let count = written_field (c.args.at + 6) 4 c.path_length-count.result (c.args.at + 10) c.put_number-2.ensures (omega arith) in
    rw (open_line_bits c.args.line.number (path_at c.args.tree.rows.now c.args.line.number) (omega arith), ← c.path_length-count.ensures)
    (written_both number (written_both count c.write_path.ensures))
