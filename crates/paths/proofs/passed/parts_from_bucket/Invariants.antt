-- `paths::passed::parts_from_bucket` meets its contract. The invariant: the line parts from those of the bucket that were walked past (`Walked`). The measure is the entry, since a chain goes to smaller lines.
-- Assumes nothing.
use Rattle.tree.specs.Record.{path_at, parts}
use Rattle.paths.specs.Passed.{root_bucket}
use Rattle.paths.proofs.ChainLaws.{Walked}
use Rattle.paths.proofs.passed.parts_from_bucket.Given as goal

abbrev pub invariant-loop-entry : goal.invariant-loop-entry
invariant-loop-entry l = Walked (root_bucket l.rows l.bucket) (λ M. parts (path_at l.rows M) (path_at l.rows l.line.number)) l.line.number l.entry

abbrev pub decreases-loop-entry : goal.decreases-loop-entry
decreases-loop-entry l = l.entry
