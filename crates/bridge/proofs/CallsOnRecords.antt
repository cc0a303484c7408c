-- An open and a close on a legal record, each way that they can go: what is written is the record of the tree that the rules leave.
-- Assumes nothing.
use Rattle.std.specs.Prelude.{if◌then◌else◌, Option, None, Some}
use Prim.Native.Nat.{ℕ, ◌<◌, ◌≤◌}
use native.Mathlib.Omega.{arith}
use mathlib.Core.Path.{◌≡◌, sym, ◌∙◌, ap, ap₂, subst}
use mathlib.Core.Bool.{Bool, true, false, not, ◌&&◌, and-false}
use mathlib.Core.List.{List, [], ◌∷◌}
use lib.ListN.{length}
use Rattle.tree.specs.declared.Plan.{Plan}
use Rattle.tree.specs.Search.{found}
use Rattle.tree.specs.Tree.{Tree, nothing, present, row, is_open, Place}
use Rattle.tree.specs.Opening.{opened, start_given}
use Rattle.tree.specs.Closing.{cleared, joined_up, closed}
use Rattle.tree.specs.Refusals.{no_room, period_out_of_range, open_refusal}
use Rattle.tree.specs.Calls.{Call, open_line, close_line, booked, done, refused, refusal, reply, carried_out, answer_unless, answer}
use Rattle.tree.specs.Record.{path_at, no_rows, legal, record_of}
use Rattle.paths.specs.Rules.{Spot, spot_start, best_of_lines, set_line, booked_at}
use Rattle.tree.proofs.UnderEdge.{stands_present}
use Rattle.tree.proofs.Standing.{open_stands}
use Rattle.tree.proofs.Checks.{open_last_check, close_allowed, open_may}
use Rattle.tree.proofs.Opening.{MayOpen, start_empty}
use Rattle.bridge.specs.Rows.{plan_of, tree_of_rows, rows_unless, rows_after, LegalWith, CarriedOut}
use Rattle.tree.proofs.Clearing.{cleared_legal}
use Rattle.bridge.proofs.TreeOfRecord.{legal_on_record, paths_on_record, open_on_record}
use Rattle.bridge.proofs.ClearedRecord.{cleared_record}
use Rattle.bridge.proofs.RecordRoundTrip.{tree_has_record}
use Rattle.bridge.proofs.CarriedLegal.{recorded}
use Rattle.bridge.proofs.FirstRecord.{AllClosed, all_closed_nothing, first_record}
use Rattle.bridge.proofs.SearchOnPaths.{FoundSpot, search_none, search_some}
use Rattle.bridge.proofs.BookedRecord.{booked_record, booked_start}

-- A call that is refused, and one that is not

pub refused_on : (c : Call) (rows : List ℕ) (n : ℕ) → refusal c (tree_of_rows rows) ≡ Some n → CarriedOut c rows rows (refused n)
unfolding answer answer_unless rows_after rows_unless
refused_on c rows n h = record { answer_is = rw h; rows_are = rw h }

carried_on : (c : Call) (rows after : List ℕ) → refusal c (tree_of_rows rows) ≡ None → after ≡ (record_of (carried_out c (tree_of_rows rows))).rows → CarriedOut c rows after (reply c (tree_of_rows rows))
unfolding answer answer_unless rows_after rows_unless
carried_on c rows after h same = record { answer_is = rw h; rows_are = rw h same }

-- a line is open, and no node is a candidate
pub no_room_on : (rows : List ℕ) (p M : ℕ) → legal rows ≡ true → M < 64 → no_rows (path_at rows M) ≡ false → best_of_lines (path_at rows) p 64 ≡ None → no_room p (tree_of_rows rows) ≡ true
unfolding no_room found
no_room_on rows p M is_legal below there none_found =
    let t = tree_of_rows rows in
    let here = stands_present M t _ _ (open_stands M t (open_on_record rows is_legal M below ∙ ap not there)) in
    let none_chosen = search_none t (legal_on_record rows) (path_at rows) (paths_on_record rows is_legal) p none_found in
    rw (here, none_chosen)

module _ (rows : List ℕ) (is_legal : legal rows ≡ true) (long : length rows ≡ 1408) where
  abbrev t : Tree
  t = tree_of_rows rows

  -- Close

  -- the line taken out
  pub cleared_on : (L : ℕ) → L < 64 → LegalWith (set_line rows L []) (cleared L t)
  unfolding tree_of_rows
  cleared_on L below = rw (cleared_record (plan_of rows) L below is_legal long) (recorded (cleared L t) (cleared_legal L t (legal_on_record rows)))

  -- what is left of its nodes joined
  module _ (L : ℕ) (left : List ℕ) (left_long : length left ≡ 1408) (number : L ≤ 63) where
    closed_with : LegalWith left (joined_up (path_at rows L) (tree_of_rows (set_line rows L []))) → LegalWith left (closed L t)
    unfolding closed
    closed_with joined =
        let below : L < 64 = omega arith in
        record { is_legal = joined.is_legal; tree_is = joined.tree_is ∙ ap₂ joined_up (paths_on_record rows is_legal L below) (cleared_on L below).tree_is }

    pub close_on : no_rows (path_at rows L) ≡ false → LegalWith left (joined_up (path_at rows L) (tree_of_rows (set_line rows L []))) → CarriedOut (close_line L) rows left done
    unfolding refusal reply carried_out tree_of_rows
    close_on there joined =
        let closed_left = closed_with joined in
        carried_on (close_line L) rows left
        (close_allowed L t number (open_on_record rows is_legal L (omega arith) ∙ ap not there))
        (ap (λ (plan : Plan). plan.rows) (sym (tree_has_record (plan_of left) closed_left.is_legal left_long)) ∙ ap (λ (x : Tree). (record_of x).rows) closed_left.tree_is)

  -- Open

  module _ (L p : ℕ) (number : L ≤ 63) (inside : period_out_of_range p ≡ false) (absent : no_rows (path_at rows L) ≡ true) where
    not_open : is_open L t ≡ false
    not_open = open_on_record rows is_legal L (omega arith) ∙ ap not absent

    -- check 5 is the one that is left
    last_check : open_refusal L p t ≡ (if no_room p t then Some 5 else None)
    last_check = open_last_check L p t number inside not_open

    module _ (closed : AllClosed rows) where
      empty : t ≡ nothing
      unfolding tree_of_rows
      empty = all_closed_nothing (record { rows = rows }) is_legal closed

      pub first_not_refused : open_refusal L p t ≡ None
      unfolding no_room present
      first_not_refused = last_check ∙ ap (λ (x : Tree). if no_room p x then Some 5 else None) empty

      pub open_first_on : 0 < p → CarriedOut (open_line L p) rows (set_line rows L (row p 0 ∷ [])) (booked 0)
      unfolding refusal reply carried_out tree_of_rows
      open_first_on positive =
          subst (λ (a : ℕ). CarriedOut (open_line L p) rows (set_line rows L (row p 0 ∷ [])) (booked a)) (ap (start_given p) empty ∙ start_empty p)
          (carried_on (open_line L p) rows (set_line rows L (row p 0 ∷ [])) first_not_refused
          (first_record (record { rows = rows }) L p (omega arith) positive is_legal long closed ∙ ap (λ (x : Tree). (record_of (opened L p x)).rows) (sym empty)))

    module _ (s : Spot) (found_one : best_of_lines (path_at rows) p 64 ≡ Some s) where
      pub spot_found : FoundSpot p t (path_at rows) s
      spot_found = search_some t (legal_on_record rows) (path_at rows) (paths_on_record rows is_legal) p s found_one

      room_found : no_room p t ≡ false
      unfolding no_room found
      room_found = ap (λ (o : Option Place). present t && not (found o)) spot_found.chosen_is ∙ and-false (present t)

      pub not_refused : open_refusal L p t ≡ None
      not_refused = last_check ∙ ap (λ (b : Bool). if b then Some 5 else None) room_found

      pub may_open : MayOpen L p t
      may_open = open_may L p t (legal_on_record rows) not_refused

      pub open_booked_on : CarriedOut (open_line L p) rows (booked_at rows L p s) (booked (spot_start s))
      unfolding refusal reply carried_out tree_of_rows
      open_booked_on =
          subst (λ (a : ℕ). CarriedOut (open_line L p) rows (booked_at rows L p s) (booked a))
          (sym (booked_start (record { rows = rows }) L p s is_legal long may_open spot_found))
          (carried_on (open_line L p) rows (booked_at rows L p s) not_refused (booked_record (record { rows = rows }) L p s is_legal long may_open spot_found))
