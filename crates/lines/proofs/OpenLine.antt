-- The ways that an open can go on a legal record.
-- Assumes nothing.
use Rattle.std.specs.Prelude.{if◌then◌else◌, Option, None, Some, Result, Ok, Err}
use Prim.Native.Nat.{ℕ, zero, suc, ◌-◌, ◌*◌, ◌/◌, ◌<◌, ◌≤◌}
use native.Mathlib.Omega.{arith}
use mathlib.Core.Path.{◌≡◌, refl, ◌∙◌, ap, ap₂}
use mathlib.Core.Bool.{Bool, true, false, not}
use mathlib.Core.List.{List, [], ◌∷◌}
use lib.Dec.{ltb}
use lib.ListN.{length, take, length-take}
use Rattle.tree.specs.declared.Row.{Row}
use Rattle.tree.specs.Tree.{row}
use Rattle.tree.specs.declared.refusal.Refusal.{Refusal}
use Rattle.tree.specs.Answered.{number_of}
use Rattle.tree.specs.Refusals.{period_out_of_range, no_room, open_refusal}
use Rattle.tree.specs.Calls.{open_line, booked}
use Rattle.tree.specs.Record.{path_at, no_rows, legal}
use Rattle.paths.specs.Rules.{row_of, same_node, Spot, best_of_lines, set_line, split_path, booked_path, booked_at}
use Rattle.tree.proofs.Checks.{range_positive, range_at_most, open_refused_3, open_last_check}
use Rattle.tree.proofs.Opening.{MayOpen}
use Rattle.paths.proofs.RowLaws.{no_rows_empty}
use Rattle.paths.proofs.LegalLines.{legal_rest_unused}
use Rattle.candidates.specs.declared.spot.Spot.{Spot as CandidateSpot}
use Rattle.candidates.specs.Answers.{spot_in}
use Rattle.candidates.specs.Edges.{ClosedFrom, EndOfLines}
use Rattle.booking.specs.Writing.{Placeable}
use Rattle.bridge.specs.Rows.{tree_of_rows, CarriedOut}
use Rattle.bridge.proofs.SearchOnPaths.{FoundSpot}
use Rattle.bridge.proofs.FirstRecord.{AllClosed}
use Rattle.bridge.proofs.TreeOfRecord.{open_on_record}
use Rattle.bridge.proofs.CallsOnRecords.{no_room_on, open_first_on, spot_found, may_open}
use Rattle.bridge.proofs.SpotFacts.{divisor_positive, product_at_most, product_positive, row_left, rows_fit}
use Rattle.bridge.proofs.BookedRecord.{split_path_at}
use Rattle.lines.specs.Bookable.{Bookable, BookableAt, SplittableIfSmaller, split_if_smaller}
use Rattle.lines.specs.Checks.{Searched, RoomFound}

-- The checks and the search

-- the lines from 0 on are closed
pub all_closed : {rows : List ℕ} → ClosedFrom rows 0 → AllClosed rows
unfolding AllClosed
all_closed closed M below = closed.closed M (omega arith) below

module _ {rows : List ℕ} {end : ℕ} (lines : EndOfLines rows end) where
  pub root_found : end ≡ 0 → ClosedFrom rows 0
  root_found is_0 = rw is_0 at lines.closed_from

  pub no_room_found : (p : ℕ) → legal rows ≡ true → (end ≡ 0 → ⊥) → best_of_lines (path_at rows) p 64 ≡ None → no_room p (tree_of_rows rows) ≡ true
  no_room_found p is_legal some_open none_found =
      let below = lines.closed_from.within in
      no_room_on rows p (end - 1) is_legal (omega arith) (lines.last_open (end - 1) (omega arith)) none_found

pub open_again : (rows : List ℕ) (L p : ℕ) → legal rows ≡ true → L ≤ 63 → period_out_of_range p ≡ false → no_rows (path_at rows L) ≡ false → open_refusal L p (tree_of_rows rows) ≡ Some 3
open_again rows L p is_legal number inside there =
    open_refused_3 L p (tree_of_rows rows) number inside (open_on_record rows is_legal L (omega arith) ∙ ap not there)

-- an open that passes the checks 1, 2 and 3
pub checks_passed : (rows : List ℕ) (L p : ℕ) → legal rows ≡ true → L < 64 → period_out_of_range p ≡ false → no_rows (path_at rows L) ≡ true → Bookable rows L p
checks_passed rows L p is_legal below inside absent = record { is_legal = is_legal; number = omega arith; inside = inside; absent = absent }

-- it finds what the search finds
pub checked_if_bookable : (rows : List ℕ) (L p : ℕ) → Bookable rows L p → (o : Result (Option CandidateSpot) Refusal) → Searched rows p o → RoomFound rows L p o
unfolding Searched RoomFound
checked_if_bookable rows L p ready (Err r) searched =
    let number = ready.number in
    let absent = open_on_record rows ready.is_legal L (omega arith) ∙ ap not ready.absent in
    open_last_check L p (tree_of_rows rows) number ready.inside absent ∙ rw (searched.1, searched.0)
checked_if_bookable rows L p ready (Ok None) searched = (ready, searched)
checked_if_bookable rows L p ready (Ok (Some s)) searched = record { bookable = ready; found_one = searched }

-- what was found, case by case

pub checked_refusal : (rows : List ℕ) (L p : ℕ) (r : Refusal) → RoomFound rows L p (Err r) → open_refusal L p (tree_of_rows rows) ≡ Some (number_of r)
unfolding RoomFound
checked_refusal rows L p r checked = checked

module _ (rows : List ℕ) (L p : ℕ) {o : Option CandidateSpot} (checked : RoomFound rows L p (Ok o)) where
  pub checked_root : o ≡ None → Bookable rows L p × ClosedFrom rows 0
  unfolding RoomFound
  checked_root told = rw told at checked

  pub checked_spot : {s : CandidateSpot} → o ≡ Some s → BookableAt rows L p (spot_in s)
  unfolding RoomFound
  checked_spot told = rw told at checked

-- Under the root of an empty plan

pub open_first : (rows : List ℕ) (L p : ℕ) → Bookable rows L p → length rows ≡ 1408 → ClosedFrom rows 0 → CarriedOut (open_line L p) rows (set_line rows L (row p 0 ∷ [])) (booked 0)
open_first rows L p ready long closed =
    open_first_on rows ready.is_legal long L p ready.number ready.inside ready.absent (all_closed closed) (range_positive p ready.inside)

-- At the chosen candidate

take_split_path : (l d : ℕ) (rs : List Row) → take l (split_path l d rs) ≡ take l rs
unfolding split_path
take_split_path zero d [] = refl
take_split_path (suc l) d [] = refl
take_split_path zero d (r ∷ rs) = refl
take_split_path (suc l) d (r ∷ rs) = ap (◌∷◌ r) (take_split_path l d rs)

module _ (rows : List ℕ) (L p : ℕ) (s : Spot) (ready_at : BookableAt rows L p s) (long : length rows ≡ 1408) where
  abbrev ready : Bookable rows L p
  ready = ready_at.bookable

  pub found_spot : FoundSpot p (tree_of_rows rows) (path_at rows) s
  found_spot = spot_found rows ready.is_legal long L p ready.number ready.inside ready.absent s ready_at.found_one

  pub may_open_at : MayOpen L p (tree_of_rows rows)
  may_open_at = may_open rows ready.is_legal long L p ready.number ready.inside ready.absent s ready_at.found_one

  -- the numbers that the code computes are in range
  pub product_fits : s.step * s.divisor ≤ 4095
  unfolding tree_of_rows
  product_fits =
      let most = product_at_most (record { rows = rows }) L p s ready.is_legal long may_open_at found_spot in
      let range = range_at_most p ready.inside in
      omega arith

  pub product_not_zero : 0 < s.step * s.divisor
  unfolding tree_of_rows
  product_not_zero = product_positive (record { rows = rows }) L p s ready.is_legal long may_open_at found_spot

  pub spot_splittable : SplittableIfSmaller rows s.line s.level s.divisor
  unfolding tree_of_rows
  spot_splittable =
      record {
        on_path = found_spot.level_below;
        splittable = λ small. record {
          divisor_above_0 = divisor_positive (record { rows = rows }) L p s ready.is_legal long may_open_at found_spot;
          on_path = found_spot.level_below;
          row_left = λ M below through. record {
            short = row_left (record { rows = rows }) L p s ready.is_legal long may_open_at found_spot M below through small;
            rest_is_unused = legal_rest_unused rows ready.is_legal M below;
          };
        };
      }

  -- the line through the node is another one
  other_line : s.line ≡ L → ⊥
  other_line same =
      let no_row : length (path_at rows s.line) ≡ 0 = ap (λ (M : ℕ). length (path_at rows M)) same ∙ ap length (no_rows_empty (path_at rows L) ready.absent) in
      let below = found_spot.level_below in
      omega arith

  -- the record after the split: the way down to the node is the same
  abbrev after : List ℕ
  after = split_if_smaller rows s.line s.level s.divisor

  way_after : take s.level (path_at after s.line) ≡ take s.level (path_at rows s.line)
  unfolding split_if_smaller tree_of_rows
  way_after =
      ap (take s.level) (split_path_at (record { rows = rows }) L p s ready.is_legal long may_open_at found_spot s.line found_spot.line_below other_line)
      ∙ either (same_node s.level ps ps) (ltb s.divisor (row_of s.level ps).weight)
    where
      ps : List Row
      ps = path_at rows s.line

      either : (a b : Bool) → take s.level (if a then (if b then split_path s.level s.divisor ps else ps) else ps) ≡ take s.level ps
      either true true = take_split_path s.level s.divisor ps
      either true false = refl
      either false b = refl

  pub spot_placeable : (q : ℕ) → q ≡ p / (s.step * s.divisor) → Placeable after L s.line s.level s.divisor s.class q
  unfolding tree_of_rows
  spot_placeable q h =
      let below = found_spot.level_below in
      let before = length-take s.level (path_at rows s.line) in
      let now_long = length-take s.level (path_at after s.line) in
      let same = ap length way_after in
      let number = ready.number in
      record {
        another_line = other_line;
        on_path = omega arith;
        rows_left = rw (way_after, h) (rows_fit (record { rows = rows }) L p s ready.is_legal long may_open_at found_spot);
      }

  pub placed_is_booked : (q : ℕ) → q ≡ p / (s.step * s.divisor) →
      set_line after L (booked_path (take s.level (path_at after s.line)) s.divisor s.class q) ≡ booked_at rows L p s
  unfolding booked_at split_if_smaller
  placed_is_booked q h = ap₂ (λ (rs : List Row) (k : ℕ). set_line after L (booked_path rs s.divisor s.class k)) way_after h
