-- `reasons::node_at` meets its contract. The invariant: no path passed goes through the node (`NoneBelow`).
-- Assumes nothing.
use Rattle.tree.specs.Record.{path_at}
use Rattle.paths.specs.Rules.{through_node}
use Rattle.paths.proofs.NoneBelow.{NoneBelow}
use Rattle.reasons.proofs.node_at.Given as goal

abbrev pub invariant-loop-number : goal.invariant-loop-number
invariant-loop-number l = NoneBelow 64 (through_node (path_at l.tree.rows.now) l.level l.offset) l.number
