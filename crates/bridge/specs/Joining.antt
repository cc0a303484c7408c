-- Nodes joined on a path of a tree, level by level, as the code does it. Nothing here has to be believed: that it is the joining of
-- crate tree (specs/Closing.antt) is proved.
-- Assumes nothing.
use Rattle.std.specs.Prelude.{ℕ, zero, suc, ◌<◌, ◌≡◌, Bool, List, [], ◌∷◌, Option, None}
use Rattle.tree.specs.declared.Row.{Row}
use Rattle.tree.specs.Tree.{Tree, nothing, line, node}
use Rattle.tree.specs.Opening.{put}
use Rattle.tree.specs.Closing.{weight_below, join_fully}
use Rattle.tree.specs.Record.{path_at}
use Rattle.paths.specs.Rules.{same_node}

-- what stands at level l of the way along the edges of a path, nothing beyond its last row
unfoldable pub along : ℕ → List Row → Tree → Tree
along l [] t = nothing
along zero (r ∷ rs) t = t
along (suc l) (r ∷ rs) nothing = nothing
along (suc l) (r ∷ rs) (line n) = nothing
along (suc l) (r ∷ rs) (node w f) = along l rs (f r.edge)

-- the tree with a change of what stands there
unfoldable pub at_level : (Tree → Tree) → ℕ → List Row → Tree → Tree
at_level change l [] t = t
at_level change zero (r ∷ rs) t = change t
at_level change (suc l) (r ∷ rs) nothing = nothing
at_level change (suc l) (r ∷ rs) (line n) = line n
at_level change (suc l) (r ∷ rs) (node w f) = node w (put r.edge (at_level change l rs (f r.edge)) f)

-- the nodes on the first k levels of that way joined while they can be, from the deepest one up
unfoldable pub joined_below : ℕ → List Row → Tree → Tree
joined_below zero ps t = t
joined_below (suc k) ps t = joined_below k ps (at_level join_fully k ps t)

-- the weight v with which a node is joined, if it is
unfoldable pub weight_to_join : Tree → Option ℕ
weight_to_join nothing = None
weight_to_join (line n) = None
weight_to_join (node w f) = weight_below w f

-- the test takes those lines whose paths go through the node at level l of path ps
abbrev pub TakesThrough : List ℕ → List Row → ℕ → (ℕ → Bool) → Type 0
TakesThrough rows ps l taken = (M : ℕ) → M < 64 → taken M ≡ same_node l ps (path_at rows M)
