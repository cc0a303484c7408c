-- `gaplinte::ask::owner_value` meets its contract: one number for each way that owner can go.
-- Assumes nothing.
use Rattle.plan.specs.Ask.{owner_answer}
use Rattle.gaplinte.specs.Served.{owner_value}
use Rattle.gaplinte.proofs.ask.owner_value.Goals as goal

pub returns-in-Line : goal.returns-in-Line
unfolding owner_answer owner_value
returns-in-Line c = rw c.in-Line.is

pub returns-in-Idle : goal.returns-in-Idle
unfolding owner_answer owner_value
returns-in-Idle c = rw (c.in-Idle.is, c.from.ensures)
