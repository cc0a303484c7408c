-- `candidates::edges::mark_present` meets its contract. The invariant: marked are the edges that the lines passed take (`Marking`).
-- Assumes nothing.
use Rattle.candidates.proofs.PresentEdges.{Marking}
use Rattle.candidates.proofs.edges.mark_present.Given as goal

abbrev pub invariant-loop-number : goal.invariant-loop-number
invariant-loop-number l = Marking l.rows l.node.line.number l.node.level l.marks l.number
