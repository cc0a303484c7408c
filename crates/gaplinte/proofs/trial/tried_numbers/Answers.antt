-- `gaplinte::trial::tried_numbers` meets its contract: the split as a number.
-- Assumes nothing.
use Rattle.gaplinte.specs.Served.{tried_numbers}
use Rattle.gaplinte.proofs.Answering.{one_if}
use Rattle.gaplinte.proofs.trial.tried_numbers.Goals as goal

pub returns : goal.returns
unfolding tried_numbers
returns c = rw (c.from.ensures, one_if)
