-- `candidates::starts_by` meets its contract.
-- Assumes nothing.
use Rattle.candidates.specs.Answers.{starts_by}
use Rattle.paths.specs.Rules.{spot_start}
use Rattle.candidates.proofs.starts_by.Goals as goal

pub returns-in_default : goal.returns-in_default
unfolding starts_by
returns-in_default c = rw c.in_default.is

pub returns : goal.returns
unfolding starts_by spot_start
returns c = rw (c.in-Some.is, c.start.ensures)
