-- `gaplinte::ask::gaplinte_is_tree` meets its contract, by that of `paths::legal`.
-- Assumes nothing.
use Rattle.tree.specs.Answered.{outcome_of}
use Rattle.gaplinte.specs.Served.{tree_outcome}
use Rattle.gaplinte.proofs.Answering.{answer_read_back, one_if}
use Rattle.gaplinte.proofs.ask.gaplinte_is_tree.Goals as goal

pub returns : goal.returns
unfolding tree_outcome outcome_of
returns c = rw (answer_read_back _ _ c.number.ensures, c.from.ensures, c.legal.ensures, one_if)
