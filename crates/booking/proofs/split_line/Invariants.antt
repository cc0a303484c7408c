-- `booking::split_line` meets its contract. The invariant: the rows passed have moved down by one (`Moved`).
-- Assumes nothing.
use Rattle.booking.proofs.SplitPath.{Moved}
use Rattle.booking.proofs.split_line.Given as goal

abbrev pub invariant-loop-k : goal.invariant-loop-k
invariant-loop-k l = Moved l.initial.rows l.rows l.line.number l.level l.k
