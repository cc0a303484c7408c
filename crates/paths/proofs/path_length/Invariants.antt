-- `paths::path_length` meets its contract. The invariant: the rows passed and those left make up the path (`Passed`).
-- Assumes nothing.
use Rattle.paths.proofs.PathLength.{Passed}
use Rattle.paths.proofs.path_length.Given as goal

abbrev pub invariant-loop-count : goal.invariant-loop-count
invariant-loop-count l = Passed l.rows l.line.number l.count
