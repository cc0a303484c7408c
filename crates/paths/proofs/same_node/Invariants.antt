-- `paths::same_node` meets its contract. A path that ends above the level goes through no node there. The loop's invariant: the paths go through the same node exactly where what is left of them does (`SameWay`).
--
-- Assumes nothing.
use Rattle.paths.proofs.SameNode.{SameWay}
use Rattle.paths.proofs.same_node.Given as goal

abbrev pub invariant-loop-k : goal.invariant-loop-k
invariant-loop-k l = SameWay l.rows l.a.number l.b.number l.level l.k
