-- `candidates::open_lines::lines_end` meets its contract. The invariant: the lines from the present end on are closed (`ClosedFrom`).
-- Assumes nothing.
use Rattle.candidates.specs.Edges.{ClosedFrom}
use Rattle.candidates.proofs.open_lines.lines_end.Given as goal

abbrev pub invariant-loop-number : goal.invariant-loop-number
invariant-loop-number l = ClosedFrom l.rows l.number
