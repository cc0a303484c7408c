-- `candidates::open_lines::open_lines` meets its contract: the lines from their end on are closed.
-- Assumes nothing.
use Rattle.candidates.proofs.open_lines.open_lines.Goals as goal

pub invariant_of-result : goal.invariant_of-result
invariant_of-result c = record { closed_from = c.lines_end.ensures.closed_from }
