-- `plan::change::close` meets its contract, by that of `close_rows`.
-- Assumes nothing.
use Rattle.plan.proofs.Changes.{carried_meets}
use Rattle.plan.proofs.change.close.Goals as goal

pub returns : goal.returns
returns c = carried_meets _ c.args.plan _ _ c.close_rows-answer.ensures
