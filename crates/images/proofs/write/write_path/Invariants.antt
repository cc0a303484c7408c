-- `images::write::write_path` meets its contract. The invariant: the rows passed were written.
-- Assumes nothing.
use Prim.Native.Nat.{◌+◌, ◌*◌}
use lib.ListN.{take}
use Rattle.tree.specs.Record.{path_at}
use Rattle.tree.specs.Image.{path_bits}
use Rattle.images.specs.Writing.{BitsWritten}
use Rattle.images.proofs.write.write_path.Given as goal

abbrev pub invariant-loop-k : goal.invariant-loop-k
invariant-loop-k l = BitsWritten l.at (path_bits (take l.k (path_at l.tree.rows.now l.line.number))) l.initial.buffer l.buffer (l.at + 24 * l.k)
