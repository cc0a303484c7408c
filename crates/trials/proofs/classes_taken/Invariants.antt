-- `trials::classes_taken` meets its contract. The invariant: the classes that the lines passed take are marked and counted (`Counting`).
-- Assumes nothing.
use Rattle.trials.proofs.ClassesTaken.{Counting}
use Rattle.trials.proofs.classes_taken.Given as goal

abbrev pub invariant-loop-number : goal.invariant-loop-number
invariant-loop-number l = Counting l.rows l.spot.node.line.number l.spot.node.level l.spot.divisor l.met l.count l.number
