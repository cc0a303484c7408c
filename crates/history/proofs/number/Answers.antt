-- `history::number` meets its contract, case by case.
-- Assumes nothing.
use Rattle.lists.specs.Runs.{answer_in}
use Rattle.history.specs.Replay.{answer_number}
use Rattle.history.proofs.number.Goals as goal

pub returns-in-Ok-Some : goal.returns-in-Ok-Some
unfolding answer_number answer_in
returns-in-Ok-Some c = rw (c.in-Ok-Some.is, rw c.in-Ok-Some.is at c.in-Ok-Some.field-0-is) c.from.ensures

pub returns-in-Ok-None : goal.returns-in-Ok-None
unfolding answer_number answer_in
returns-in-Ok-None c = rw (c.in-Ok-None.is, rw c.in-Ok-None.is at c.in-Ok-None.field-0-is)

pub returns-in-Err : goal.returns-in-Err
unfolding answer_number answer_in
returns-in-Err c = rw (c.in-Err.is, c.from-in-Err-2.ensures, c.from-in-Err.ensures)
