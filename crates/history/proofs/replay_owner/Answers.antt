-- `history::replay_owner` meets its contract: what `replay` ensures, and what the owner call ensures on the plan that it left.
-- Assumes nothing.
use Rattle.bridge.specs.Rows.{tree_of_rows}
use Rattle.history.proofs.Replaying.{owner_after_replay}
use Rattle.history.proofs.replay_owner.Goals as goal

pub returns : goal.returns
unfolding tree_of_rows
returns c = owner_after_replay _ _ _ _ _ c.replay-replayed.ensures _ _ c.owner.ensures
