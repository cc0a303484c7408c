-- The lines through the nodes of a path, while nodes are joined level by level.
-- Assumes nothing.
use Rattle.std.specs.Prelude.{ℕ, suc, ◌<◌, ◌≡◌, true, List}
use Rattle.tree.specs.declared.Row.{Row}
use Rattle.tree.specs.Closing.{join_fully}
use Rattle.tree.specs.Record.{legal}
use Rattle.bridge.specs.Rows.{tree_of_rows}
use Rattle.bridge.specs.Joining.{at_level, TakesThrough}
use Rattle.joining.specs.Common.{through}

-- The record is that of a tree, and `common` tells the lines through the nodes of path ps on its first n levels.
pub record CommonWith (rows : List ℕ) (ps : List Row) (common : List ℕ) (n : ℕ) : Type 0 where
  pub is_legal : legal rows ≡ true
  pub takes : (k : ℕ) → k < n → TakesThrough rows ps k (through common k)

-- The node at level l of path ps was joined while it can be, and `common` still tells the lines down to that level.
pub record LevelJoined (before left : List ℕ) (ps : List Row) (common : List ℕ) (l : ℕ) : Type 0 where
  pub common_still : CommonWith left ps common (suc l)
  pub tree_is : tree_of_rows left ≡ at_level join_fully l ps (tree_of_rows before)
