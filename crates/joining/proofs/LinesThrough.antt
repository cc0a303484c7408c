-- The lines through a node, told by the number of nodes that each line's path has in common with one path (`through`).
-- Assumes nothing.
use Prim.Native.Nat.{ℕ, ◌<◌, ◌≤◌}
use mathlib.Core.Path.{◌≡◌, ◌∙◌, ap}
use mathlib.Core.Bool.{true, false}
use mathlib.Core.List.{List}
use lib.Dec.{ltb}
use lib.ListN.{get_or}
use borrow.Author.Tests.{lt-ltb, le-ltb}
use Rattle.tree.specs.declared.Row.{Row}
use Rattle.tree.specs.Search.{each_below}
use Rattle.tree.specs.Record.{path_at}
use Rattle.tree.proofs.Searching.{each_below_at}
use Rattle.bridge.specs.Joining.{TakesThrough}
use Rattle.joining.specs.Common.{nodes_in_common, through}
use Rattle.joining.proofs.NodesInCommon.{in_common_same_node}

-- they are those whose paths go through the node of that path
pub through_same_node : (rows : List ℕ) (ps : List Row) (l : ℕ) → TakesThrough rows ps l (through (each_below 64 (λ M. nodes_in_common ps (path_at rows M))) l)
unfolding through
through_same_node rows ps l M below =
    ap (ltb l) (each_below_at 64 (λ N. nodes_in_common ps (path_at rows N)) M 0 below) ∙ in_common_same_node l ps (path_at rows M)

-- the number of line M was read
module _ (common : List ℕ) (l M : ℕ) where
  pub is_through : l < get_or common M 0 → through common l M ≡ true
  unfolding through
  is_through more = lt-ltb _ _ more

  pub not_through : get_or common M 0 ≤ l → through common l M ≡ false
  unfolding through
  not_through few = le-ltb _ _ few
