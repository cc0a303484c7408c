-- `gaplinte::reason::reason_value` meets its contract: one number for each reason.
-- Assumes nothing.
use Rattle.reasons.specs.Answers.{reason_told}
use Rattle.gaplinte.specs.Served.{reason_value}
use Rattle.gaplinte.proofs.reason.reason_value.Goals as goal

pub returns-in-StepDoesNotDivide : goal.returns-in-StepDoesNotDivide
unfolding reason_told reason_value
returns-in-StepDoesNotDivide c = rw c.in-StepDoesNotDivide.is

pub returns-in-Line : goal.returns-in-Line
unfolding reason_told reason_value
returns-in-Line c = rw c.in-Line.is
