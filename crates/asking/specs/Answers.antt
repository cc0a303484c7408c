-- What the answers of this crate's functions stand for, over the paths of the lines (crate paths, specs/Rules.antt).
-- Assumes nothing.
use Rattle.std.specs.Prelude.{ℕ, Bool, not, ◌&&◌, List, eqb, Option}
use Rattle.tree.specs.declared.Row.{Row}
use Rattle.tree.specs.Search.{smallest}
use Rattle.tree.specs.Record.{no_rows}
use Rattle.paths.specs.Rules.{Family, row_of, same_node}

-- line N takes edge e of the node at level l of path ps
unfoldable pub takes_edge : Family → List Row → ℕ → ℕ → ℕ → Bool
takes_edge family ps l e N = same_node l ps (family N) && eqb (row_of l (family N)).edge e

-- the open line of smallest number
unfoldable pub first_open : Family → Option ℕ
first_open family = smallest 64 (λ M. not (no_rows (family M)))
