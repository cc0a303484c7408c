-- `joining::join_line` meets its contract. The invariant: the rows passed have moved up by one (`MovedUp`).
-- Assumes nothing.
use Rattle.joining.proofs.JoinPath.{MovedUp}
use Rattle.joining.proofs.join_line.Given as goal

abbrev pub invariant-loop-k : goal.invariant-loop-k
invariant-loop-k l = MovedUp l.initial.rows l.rows l.line.number l.level l.k
