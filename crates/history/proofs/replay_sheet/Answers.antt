-- `history::replay_sheet` meets its contract: what `replay` ensures, and what the sheet call ensures on the plan that it left.
-- Assumes nothing.
use Rattle.bridge.specs.Rows.{tree_of_rows}
use Rattle.history.proofs.Replaying.{sheet_after_replay}
use Rattle.history.proofs.replay_sheet.Goals as goal

pub returns : goal.returns
unfolding tree_of_rows
returns c = sheet_after_replay _ _ _ _ _ c.replay-replayed.ensures _ _ _ c.sheet.ensures
