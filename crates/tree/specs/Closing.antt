-- Closing a line (document 01, Closing a line; nodes are joined again by document 02, Ask 8).
-- Assumes nothing.
use Rattle.std.specs.Prelude.{ℕ, zero, suc, ◌*◌, ◌/◌, ◌%◌, Bool, true, false, List, [], ◌∷◌, eqb, if◌then◌else◌, Option, None, Some}
use Rattle.tree.specs.declared.Row.{Row}
use Rattle.tree.specs.Search.{passing, first, some_below, all_below}
use Rattle.tree.specs.Tree.{Tree, nothing, line, node, present, path_of, weight_of}
use Rattle.tree.specs.Opening.{put}

-- The line goes

-- (Closing a line, 1, 2) A node with these edges, or nothing where none is present.
unfoldable pub prune : ℕ → (ℕ → Tree) → Tree
prune w f = if some_below w (λ e. present (f e)) then node w f else nothing

-- (Closing a line, 1, 2) The line goes, then every node without edges, the root too. Nothing else changes.
unfoldable pub cleared : ℕ → Tree → Tree
cleared L nothing = nothing
cleared L (line n) = if eqb n L then nothing else line n
cleared L (node w f) = prune w (λ e. cleared L (f e))

-- Nodes are joined

-- the edge is absent, or it leads to a node of weight v
unfoldable pub of_weight : ℕ → Tree → Bool
of_weight v nothing = true
of_weight v (line n) = false
of_weight v (node w f) = eqb w v

-- (Ask 8, 3) The one equal weight v of the nodes to which all edges of a node of weight w lead. There is none where an edge leads to a line, or two of those weights differ.
unfoldable pub weight_below : ℕ → (ℕ → Tree) → Option ℕ
weight_below w f = passing (λ v. all_below w (λ e. of_weight v (f e))) (first w (λ e. weight_of (f e)))

-- what stands under edge e of what stands here
unfoldable pub under_edge : ℕ → Tree → Tree
under_edge e nothing = nothing
under_edge e (line n) = nothing
under_edge e (node w f) = f e

-- (Ask 8, 3) A node of weight w and the nodes of weight v under its edges, joined: what stood at edge j under edge k stands at k + w·j. So edge e leads to what was under k = e mod w at j = e div w.
unfoldable pub joined_with : ℕ → ℕ → (ℕ → Tree) → Tree
joined_with v w f = node (w * v) (λ e. under_edge (e / w) (f (e % w)))

-- a node joined once, where it can be
unfoldable pub join : Tree → Tree
join nothing = nothing
join (line n) = line n
join (node w f) = elim (weight_below w f) [ None ↦ node w f | Some v ↦ joined_with v w f ]

unfoldable pub join_times : ℕ → Tree → Tree
join_times zero t = t
join_times (suc n) t = join_times n (join t)

-- (Ask 8, 3) A node joined while it can be. Of the at most 11 nodes above a line each join leaves one less, so that 10 are enough: then no more can be joined (`joined_to_the_end`).
unfoldable pub join_fully : Tree → Tree
join_fully t = join_times 10 t

-- (Ask 8, 2) The nodes on the way along the edges of a path are joined, from the deepest one up to the root.
unfoldable pub joined_up : List Row → Tree → Tree
joined_up [] t = t
joined_up (r ∷ rs) nothing = nothing
joined_up (r ∷ rs) (line n) = line n
joined_up (r ∷ rs) (node w f) = join_fully (node w (put r.edge (joined_up rs (f r.edge)) f))

-- (Closing a line, 1, 2; Ask 8, 2) The line goes, and those of its ancestors that remain are joined.
unfoldable pub closed : ℕ → Tree → Tree
closed L t = joined_up (path_of L t) (cleared L t)
