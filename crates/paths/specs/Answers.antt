-- What the lookup of a line and the check of a path answer, by the path (crate tree, specs/Record.antt).
-- Assumes nothing.
use Rattle.std.specs.Prelude.{ℕ, Bool, ◌&&◌, List, [], ◌∷◌, Option, None, Some, leb, length, if◌then◌else◌}
use Rattle.tree.specs.declared.Row.{Row}
use Rattle.tree.specs.Search.{all_below}
use Rattle.tree.specs.Tree.{product}
use Rattle.tree.specs.Record.{path_at, rows_in_range, path_in_range, rest_unused, together}

-- (The tree, 14) A line is open where its path has rows: then the lookup finds how many.
unfoldable pub lookup : List Row → Option ℕ
lookup [] = None
lookup (r ∷ rs) = Some (length (r ∷ rs))

-- (The tree, 15, 16) The number of rows of a path that is in range.
unfoldable pub path_checked : List Row → Option ℕ
path_checked rs = if path_in_range rs then Some (length rs) else None

-- the same of a path that is not that of a line with a root of weight 1 to itself
unfoldable pub rows_checked : List Row → Option ℕ
rows_checked rs = if rows_in_range rs && leb (product rs) 4095 then Some (length rs) else None

-- (The tree, 16) Line L goes together with each line of a smaller number.
unfoldable pub joins_earlier : List ℕ → ℕ → Bool
joins_earlier rows L = all_below L (λ M. together (path_at rows M) (path_at rows L))

-- what `legal` asks of line L: by itself, and beside the lines of smaller numbers
unfoldable pub line_legal : List ℕ → ℕ → Bool
line_legal rows L = (path_in_range (path_at rows L) && rest_unused rows L) && joins_earlier rows L
