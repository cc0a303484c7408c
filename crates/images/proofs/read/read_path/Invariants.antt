-- `images::read::read_path` meets its contract. The invariant: the line has the rows read so far (`PathGiven`).
-- Assumes nothing.
use Rattle.tree.specs.Bits.{bits_of}
use Rattle.tree.specs.ImageReading.{read_path}
use Rattle.images.specs.Parts.{PathGiven}
use Rattle.images.proofs.read.read_path.Given as goal

abbrev pub invariant-loop-k : goal.invariant-loop-k
invariant-loop-k l = PathGiven (read_path l.k (bits_of l.bytes) l.at) l.line.number l.fn.rows l.rows l.next
