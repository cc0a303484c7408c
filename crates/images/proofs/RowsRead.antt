-- The record into which an image is read: each row of a path, and each line, is put behind those before it.
-- Assumes nothing.
use Prim.Native.Nat.{ℕ, ◌+◌, ◌<◌}
use native.Mathlib.Numerals.{add-one}
use mathlib.Core.Path.{◌≡◌, refl, sym}
use mathlib.Core.Bool.{Bool, true, ◌&&◌}
use mathlib.Core.List.{List, [], ◌∷◌, ◌++◌}
use lib.Dec.{leb}
use lib.ListN.{length}
use Rattle.tree.specs.declared.Row.{Row}
use Rattle.tree.specs.Calls.{gives}
use Rattle.tree.specs.Image.{PlanLine}
use Rattle.tree.specs.ImageReading.{Part, read_field, read_row, read_path, read_line, read_lines, rising}
use Rattle.paths.specs.Rules.{set_line}
use Rattle.booking.specs.Writing.{set_row}
use Rattle.booking.proofs.SetLine.{set_line_added}
use Rattle.images.specs.declared.part.Part.{Part as PartRead}
use Rattle.images.specs.Parts.{part_told, rows_with, PathGiven, LineGiven, LinesGiven}
use Rattle.images.proofs.LinesInTree.{least_behind, least_behind_more, rising_more}
use Rattle.images.proofs.PartsInOrder.{no_row_given, row_given, path_given, no_line_given, line_given}
use Rattle.images.proofs.PartsEnd.{path_ends}

-- A path

module _ (bits : List ℕ) (at L : ℕ) {before : List ℕ} where
  pub path_begun : {after : List ℕ} → after ≡ set_line before L [] → PathGiven (read_path 0 bits at) L before after at
  path_begun cleared = record { path = []; given = no_row_given bits at; rows_are = cleared }

  module _ (k : ℕ) {rows : List ℕ} {next : ℕ} (so_far : PathGiven (read_path k bits at) L before rows next) where
    pub path_more : length before ≡ 1408 → L < 64 → k < 11 → (r : PartRead Row) → read_row bits next ≡ gives (part_told r) →
        {new : List ℕ} → new ≡ set_row rows L k r.value → PathGiven (read_path (k + 1) bits at) L before new r.next
    unfolding part_told
    path_more size below within r read put = record {
      path = so_far.path ++ (r.value ∷ []);
      given = row_given bits at k so_far.given read;
      rows_are =
          rw (put, so_far.rows_are) (set_line_added before size L below so_far.path k (path_ends k bits at _ so_far.given).all_rows within r.value);
    }

-- A line

pub line_put : (bits : List ℕ) (at : ℕ) {number count : Part ℕ} → read_field 6 0 63 bits at ≡ gives number → read_field 4 1 11 bits number.next ≡ gives count →
    {before after : List ℕ} {next : ℕ} → PathGiven (read_path count.value bits count.next) number.value before after next →
    LineGiven (read_line bits at) before after (record { value = number.value; next = next })
line_put bits at number_given count_given put = record {
  path = put.path;
  given = path_given bits at number_given count_given put.given;
  rows_are = put.rows_are;
}

-- Lines

rows_with_more : (xs : List PlanLine) (x : PlanLine) (rows : List ℕ) → rows_with (xs ++ (x ∷ [])) rows ≡ set_line (rows_with xs rows) x.number x.path
unfolding rows_with
rows_with_more [] x rows = refl
rows_with_more (y ∷ ys) x rows = rows_with_more ys x (set_line rows y.number y.path)

-- so many lines were read, and this is the smallest number that the next may have
pub record LinesSoFar (k : ℕ) (bits : List ℕ) (at : ℕ) (before after : List ℕ) (rises : Bool) (least next : ℕ) : Type 0 where
  pub told : LinesGiven (read_lines k bits at) before after (record { rising = rises; next = next })
  least_is : least ≡ least_behind 0 told.lines

module _ (bits : List ℕ) (at : ℕ) {before : List ℕ} where
  pub lines_begun : LinesSoFar 0 bits at before before true 0 at
  unfolding rows_with rising least_behind
  lines_begun = record { told = record { lines = []; given = no_line_given bits at; rising_is = refl; rows_are = refl }; least_is = refl }

  pub lines_more : (k : ℕ) {rows : List ℕ} {rises : Bool} {least next : ℕ} → LinesSoFar k bits at before rows rises least next →
      {new : List ℕ} (line : PartRead ℕ) → LineGiven (read_line bits next) rows new line →
      LinesSoFar (k + 1) bits at before new (rises && leb least line.value) (line.value + 1) line.next
  lines_more k so_far line put =
      let earlier = so_far.told.lines in
      let x : PlanLine = record { number = line.value; path = put.path } in
      record {
        told = record {
          lines = earlier ++ (x ∷ []);
          given = line_given bits at k so_far.told.given put.given;
          rising_is = rw (so_far.told.rising_is, so_far.least_is) (sym (rising_more 0 earlier x));
          rows_are = rw (put.rows_are, so_far.told.rows_are) (sym (rows_with_more earlier x before));
        };
        least_is = rw add-one (sym (least_behind_more 0 earlier x));
      }
