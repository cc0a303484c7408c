-- The scheduling tree (document 01, The tree), and how a line and a node are found in it.
-- Assumes nothing.
use Rattle.std.specs.Prelude.{ℕ, zero, suc, ◌+◌, ◌*◌, ◌/◌, ◌%◌, Bool, true, false, List, [], ◌∷◌, eqb, if◌then◌else◌, Option, None, Some, option_map, unwrap_or}
use Rattle.tree.specs.declared.Row.{Row}
use Rattle.tree.specs.Search.{found, first, total_below}

-- (The tree, 1, 4, 5) Definition 6.1: a node has a weight and edges, and under an edge stands a node or a line.
-- `f e` is what stands under edge e of `node w f`, and is `nothing` where that edge is absent. The empty plan is `nothing` too.
pub data Tree : Type 0 where
  nothing : Tree
  line : ℕ → Tree
  node : ℕ → (ℕ → Tree) → Tree

-- something stands here: the edge above it is present, or the plan is not empty
unfoldable pub present : Tree → Bool
present nothing = false
present (line n) = true
present (node w f) = true

-- a path has a row for each node passed, from the root on: its weight, and the edge taken
abbrev pub row : ℕ → ℕ → Row
row w e = record { weight = w; edge = e }

-- (The tree, 6, 7) The product of the weights on a path: the period of the line at its end, or the step of the node there.
unfoldable pub product : List Row → ℕ
product [] = 1
product (r ∷ rs) = r.weight * product rs

-- (The tree, 9, 10) The sum of equation 6. Its factor m is the product of the weights of the nodes passed before.
unfoldable pub sum_from : ℕ → List Row → ℕ
sum_from m [] = 0
sum_from m (r ∷ rs) = r.edge * m + sum_from (m * r.weight) rs

-- (The tree, 9, 11) Equation 6 over a whole path: the start of the line at its end, or the offset of the node there.
unfoldable pub sum : List Row → ℕ
sum rs = sum_from 1 rs

-- the path to line L, if it stands in the tree
unfoldable pub path : ℕ → Tree → Option (List Row)
path L nothing = None
path L (line n) = if eqb n L then Some [] else None
path L (node w f) = first w (λ e. option_map (◌∷◌ (row w e)) (path L (f e)))

-- (The tree, 14) The open lines of a tree are those that stand in it.
unfoldable pub is_open : ℕ → Tree → Bool
is_open L t = found (path L t)

-- the path to a line that stands in the tree
unfoldable pub path_of : ℕ → Tree → List Row
path_of L t = unwrap_or (path L t) []

-- (The tree, 7) The period of a line.
unfoldable pub period_of : ℕ → Tree → ℕ
period_of L t = product (path_of L t)

-- (The tree, 9) The start of a line.
unfoldable pub start_of : ℕ → Tree → ℕ
start_of L t = sum (path_of L t)

-- (The tree, 8, 11) A node is named by its level and its offset. The offset's digits in the weights are the edges on the way down to it.
pub record Place : Type 0 where
  pub level : ℕ
  pub offset : ℕ

-- what stands at a level and an offset
unfoldable pub at_digits : ℕ → ℕ → Tree → Tree
at_digits zero zero t = t
at_digits zero (suc r) t = nothing
at_digits (suc l) r nothing = nothing
at_digits (suc l) r (line n) = nothing
at_digits (suc l) r (node w f) = at_digits l (r / w) (f (r % w))

unfoldable pub at : Place → Tree → Tree
at a t = at_digits a.level a.offset t

-- the rows above what stands at a level and an offset
unfoldable pub way_by_digits : ℕ → ℕ → Tree → List Row
way_by_digits zero r t = []
way_by_digits (suc l) r nothing = []
way_by_digits (suc l) r (line n) = []
way_by_digits (suc l) r (node w f) = row w (r % w) ∷ way_by_digits l (r / w) (f (r % w))

unfoldable pub way : Place → Tree → List Row
way a t = way_by_digits a.level a.offset t

-- (The tree, 6) The step m of the node at a place.
unfoldable pub step : Place → Tree → ℕ
step a t = product (way a t)

-- the weight of a node; a line has none
unfoldable pub weight_of : Tree → Option ℕ
weight_of nothing = None
weight_of (line n) = None
weight_of (node w f) = Some w

-- (Refusals, the last sentence; Ask 3, 2) The number of nodes of a tree.
unfoldable pub nodes : Tree → ℕ
nodes nothing = 0
nodes (line n) = 0
nodes (node w f) = 1 + total_below w (λ e. nodes (f e))
