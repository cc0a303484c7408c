-- A path as 11 rows (crate tree, specs/Asking.antt) is the record's 11 rows of a line whose rows after the path are unused. `rows_of` copies them.
-- Assumes nothing.
use Prim.Native.Nat.{ℕ, ◌<◌, ◌≤◌}
use mathlib.Core.Path.{◌≡◌, sym, ◌∙◌}
use mathlib.Core.Bool.{true}
use mathlib.Core.List.{List}
use lib.ListN.{get_or}
use Rattle.tree.specs.declared.Row.{Row}
use Rattle.tree.specs.Tree.{row}
use Rattle.tree.specs.Asking.{rows_11}
use Rattle.tree.specs.Record.{row_at, path_at, rest_unused}
use Rattle.paths.specs.Rules.{row_of}
use Rattle.paths.proofs.Filled.{Filled, filled_is}
use Rattle.paths.proofs.RowLaws.{rows_11_length, rows_11_row, line_row}

-- row i of the 11 rows of a path is the record's
record_row : (rows : List ℕ) (L : ℕ) → rest_unused rows L ≡ true → (i : ℕ) → i < 11 → get_or (rows_11 (path_at rows L)) i (row 0 0) ≡ row_at rows L i
unfolding row_of
record_row rows L rest i below = rows_11_row (path_at rows L) i below ∙ sym (line_row rows L rest i below)

pub copied_all : (rows : List ℕ) (L : ℕ) {path : List Row} {k : ℕ} → Filled (row 0 0) 11 (row_at rows L) path k → 11 ≤ k → rest_unused rows L ≡ true → path ≡ rows_11 (path_at rows L)
copied_all rows L copied past rest = filled_is copied past (rows_11 (path_at rows L)) (rows_11_length (path_at rows L)) (record_row rows L rest)
