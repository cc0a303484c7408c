-- `reasons::node_of` meets its contract. The invariant: step and offset are the product and the sum of the rows passed (`Carried`).
-- Assumes nothing.
use Rattle.paths.proofs.PathNumbers.{Carried}
use Rattle.reasons.proofs.node_of.Given as goal

abbrev pub invariant-loop-k : goal.invariant-loop-k
invariant-loop-k l = Carried l.tree.rows.now l.line.number l.step l.offset l.k
