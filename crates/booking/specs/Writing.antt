-- One row written into the record, and when a node can be split.
-- Assumes nothing.
use Rattle.std.specs.Prelude.{ℕ, ◌+◌, ◌*◌, ◌<◌, ◌≤◌, ◌≡◌, true, List, length, take, set}
use Rattle.tree.specs.declared.Row.{Row}
use Rattle.tree.specs.Record.{path_at, rest_unused}
use Rattle.paths.specs.Rules.{same_node, booked_path}

-- the record with row k of line L replaced
unfoldable pub set_row : List ℕ → ℕ → ℕ → Row → List ℕ
set_row rows L k r = set (set rows (22 * L + 2 * k) r.weight) (22 * L + 2 * k + 1) r.edge

-- line L has a row left for one more node, and its rows after the path are unused
pub record RowLeft (rows : List ℕ) (L : ℕ) : Type 0 where
  pub short : length (path_at rows L) < 11
  pub rest_is_unused : rest_unused rows L ≡ true

-- there is a node at level l of line L's path, and it can be split by d on this path
pub record SplittableOnLine (rows : List ℕ) (L l d : ℕ) : Type 0 where
  pub divisor_above_0 : 0 < d
  pub on_path : l < length (path_at rows L)
  pub row_left : RowLeft rows L

-- and on the path of each line that goes through it
pub record Splittable (rows : List ℕ) (L l d : ℕ) : Type 0 where
  pub divisor_above_0 : 0 < d
  pub on_path : l < length (path_at rows L)
  pub row_left : (M : ℕ) → M < 64 → same_node l (path_at rows L) (path_at rows M) ≡ true → RowLeft rows M

-- there is a way down to level l of line M's path, and it leaves rows enough for line L to be booked below it
pub record Placeable (rows : List ℕ) (L M l d i q : ℕ) : Type 0 where
  pub another_line : M ≡ L → ⊥
  pub on_path : l ≤ length (path_at rows M)
  pub rows_left : length (booked_path (take l (path_at rows M)) d i q) ≤ 11
