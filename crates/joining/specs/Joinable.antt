-- The row of a joined node, and when nodes can be joined in the record.
-- Assumes nothing.
use Rattle.std.specs.Prelude.{ℕ, suc, ◌+◌, ◌*◌, ◌<◌, ◌≤◌, ◌≡◌, true, Bool, List, length}
use Rattle.tree.specs.declared.Row.{Row}
use Rattle.tree.specs.Tree.{row}
use Rattle.tree.specs.Record.{path_at, path_in_range, rest_unused}

-- the one row that two rows become where their nodes are joined
abbrev pub joined_row : Row → Row → Row
joined_row r s = row (r.weight * s.weight) (r.edge + r.weight * s.edge)

-- two rows of one path: each edge is below its weight, and the product of the weights is no larger than a period
pub record JoinableRows (node child : Row) : Type 0 where
  pub edge_below : node.edge < node.weight
  pub child_edge_below : child.edge < child.weight
  pub small : node.weight * child.weight ≤ 4095

-- line L's path goes through a node at level l and through one below it, and is in range, and the line's other rows are unused
pub record JoinableOnLine (rows : List ℕ) (L l : ℕ) : Type 0 where
  pub goes_on : suc l < length (path_at rows L)
  pub in_range : path_in_range (path_at rows L) ≡ true
  pub rest_is_unused : rest_unused rows L ≡ true

-- so does the path of each line that a test takes
pub record Joinable (rows : List ℕ) (taken : ℕ → Bool) (l : ℕ) : Type 0 where
  pub on_line : (M : ℕ) → M < 64 → taken M ≡ true → JoinableOnLine rows M l

-- the rows after the path are unused, of each line that a test takes
abbrev pub RestUnused : List ℕ → (ℕ → Bool) → Type 0
RestUnused rows taken = (M : ℕ) → M < 64 → taken M ≡ true → rest_unused rows M ≡ true
