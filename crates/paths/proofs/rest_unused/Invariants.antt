-- `paths::rest_unused` meets its contract. The invariant: each row passed is in the path, or 0 and 0 (`Unused`).
-- Assumes nothing.
use Rattle.paths.proofs.UnusedRows.{Unused}
use Rattle.paths.proofs.rest_unused.Given as goal

abbrev pub invariant-loop-k : goal.invariant-loop-k
invariant-loop-k l = Unused l.rows l.line.number l.k
