-- `plan::change::open` meets its contract, by that of `open_rows`.
-- Assumes nothing.
use Rattle.plan.proofs.Changes.{carried_meets}
use Rattle.plan.proofs.change.open.Goals as goal

pub returns : goal.returns
returns c = carried_meets _ c.args.plan _ _ c.open_rows-answer.ensures
