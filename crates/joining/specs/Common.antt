-- How many nodes the path of each line has in common with one path, and the lines through one of its nodes by these numbers.
-- Assumes nothing.
use Rattle.std.specs.Prelude.{ℕ, suc, Bool, List, [], ◌∷◌, eqb, ltb, get_or, if◌then◌else◌}
use Rattle.tree.specs.declared.Row.{Row}

-- how many nodes two paths have in common: they go through the root together where both have a row, and on to one node more where they take
-- equal edges and both go on
unfoldable pub nodes_in_common : List Row → List Row → ℕ
nodes_in_common [] qs = 0
nodes_in_common (p ∷ ps) [] = 0
nodes_in_common (p ∷ ps) (q ∷ qs) = suc (if eqb p.edge q.edge then nodes_in_common ps qs else 0)

-- line M goes through the node at level l, where `common` has for each line the number of nodes that its path has in common with the one path
unfoldable pub through : List ℕ → ℕ → ℕ → Bool
through common l M = ltb l (get_or common M 0)
