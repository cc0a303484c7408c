-- `images::read::read_lines` meets its contract. The invariant: the lines read so far are in the record, and the next one's smallest number is known (`LinesSoFar`).
-- Assumes nothing.
use Rattle.tree.specs.Bits.{bits_of}
use Rattle.images.proofs.RowsRead.{LinesSoFar}
use Rattle.images.proofs.read.read_lines.Given as goal

abbrev pub invariant-loop : goal.invariant-loop
invariant-loop l = LinesSoFar l.counter (bits_of l.bytes) l.at l.fn.rows l.rows l.rising l.least l.next
