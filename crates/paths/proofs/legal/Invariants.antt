-- `paths::legal` meets its contract. The invariant: every line passed is right (`Tested`), and was passed (`PassedBelow`).
-- Assumes nothing.
use Rattle.paths.specs.Answers.{line_legal}
use Rattle.paths.specs.Passed.{PassedBelow}
use Rattle.paths.proofs.AllBelow.{Tested}
use Rattle.paths.proofs.legal.Given as goal

abbrev pub invariant-loop-number : goal.invariant-loop-number
invariant-loop-number l = Tested 64 (line_legal l.rows) l.number × PassedBelow l.rows l.number l.passed
