-- `paths::closed_unused` meets its contract. The invariant: what the sum of the rows passed says of them (`Summed`).
-- Assumes nothing.
use Rattle.paths.proofs.UnusedRows.{Summed}
use Rattle.paths.proofs.closed_unused.Given as goal

abbrev pub invariant-loop-k : goal.invariant-loop-k
invariant-loop-k l = Summed l.rows l.line.number l.sum l.k
