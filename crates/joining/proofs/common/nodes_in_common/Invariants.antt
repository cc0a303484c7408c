-- `joining::common::nodes_in_common` meets its contract. The invariant: the nodes passed and those left are all in common (`Counted`).
-- Assumes nothing.
use Rattle.joining.proofs.NodesInCommon.{Counted}
use Rattle.joining.proofs.common.nodes_in_common.Given as goal

abbrev pub invariant-loop-k : goal.invariant-loop-k
invariant-loop-k l = Counted l.rows l.path l.count l.other.number l.k
