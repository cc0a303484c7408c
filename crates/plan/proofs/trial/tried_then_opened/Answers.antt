-- `plan::trial::tried_then_opened` meets its contract, by those of the two calls and `open_brings_about` of crate tree.
-- Assumes nothing.
use Rattle.bridge.specs.Rows.{tree_of_rows}
use Rattle.plan.proofs.Trials.{opened_as_tried}
use Rattle.plan.proofs.trial.tried_then_opened.Goals as goal

pub returns : goal.returns
unfolding tree_of_rows
returns c = opened_as_tried _ _ _ _ _ _ c.trial-told.ensures c.open-opened.ensures
