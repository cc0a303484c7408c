-- `asking::times_of` meets its contract. The invariant: the product and the sum of the rows passed (`Carried`).
-- In a legal record no product and no sum on the way is above 4,095.
-- Assumes nothing.
use Rattle.paths.proofs.PathNumbers.{Carried}
use Rattle.asking.proofs.times_of.Given as goal

abbrev pub invariant-loop-k : goal.invariant-loop-k
invariant-loop-k l = Carried l.tree.rows.now l.line.number l.product l.sum l.k
