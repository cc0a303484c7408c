-- What the booking of a line rests on.
-- Assumes nothing.
use Rattle.std.specs.Prelude.{ℕ, ◌<◌, ◌≤◌, ◌≡◌, true, false, List, ltb, length, if◌then◌else◌, Some}
use Rattle.tree.specs.Refusals.{period_out_of_range}
use Rattle.tree.specs.Record.{path_at, no_rows, legal}
use Rattle.paths.specs.Rules.{row_of, Spot, best_of_lines, split_lines}
use Rattle.booking.specs.Writing.{Splittable}

-- an open of line L with period p that passes the checks 1, 2 and 3 on a legal record
pub record Bookable (rows : List ℕ) (L p : ℕ) : Type 0 where
  pub is_legal : legal rows ≡ true
  pub number : L ≤ 63
  pub inside : period_out_of_range p ≡ false
  pub absent : no_rows (path_at rows L) ≡ true

-- and whose search found this spot
pub record BookableAt (rows : List ℕ) (L p : ℕ) (s : Spot) : Type 0 where
  pub bookable : Bookable rows L p
  pub found_one : best_of_lines (path_at rows) p 64 ≡ Some s

-- a node that can be split by d where d is below its weight
pub record SplittableIfSmaller (rows : List ℕ) (L l d : ℕ) : Type 0 where
  pub on_path : l < length (path_at rows L)
  pub splittable : d < (row_of l (path_at rows L)).weight → Splittable rows L l d

-- the record with that node split where d is below its weight
unfoldable pub split_if_smaller : List ℕ → ℕ → ℕ → ℕ → List ℕ
split_if_smaller rows L l d =
    if ltb d (row_of l (path_at rows L)).weight then split_lines rows (path_at rows L) l d 64 else rows
