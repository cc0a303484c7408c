-- The sheet after a list of opens and closes is the one by the ledger, and it adds up (specs/Sheets.antt): by value, on a lent record, and of the library.
-- Assumes nothing.
use Rattle.std.specs.Prelude.{if◌then◌else◌, Option, None, Some}
use Prim.Native.Nat.{ℕ, ◌+◌, ◌%◌, ◌<◌}
use native.Mathlib.Omega.{arith}
use native.Mathlib.Decide.{dec_lt}
use mathlib.Core.Path.{◌≡◌, refl, sym, ◌∙◌, ap}
use mathlib.Core.Logic.{◌↔◌}
use mathlib.Core.Bool.{true, not, false≢true, not-eq-not}
use mathlib.Core.List.{List, [], ◌∷◌}
use Rattle.std.proofs.lemmas.Bool.Decides.{same_from_decides, Decides-like}
use Rattle.std.proofs.lemmas.Option.{none-some}
use lib.IntN.{ℤ}
use lib.ListN.{get_or-eq_default}
use lib.Seq.{take_at, get_or_at}
use borrow.Author.Tests.{eqb-true, eq-eqb}
use Rattle.tree.specs.declared.Sheet.{Sheet}
use Rattle.tree.specs.Search.{found, some_below, total_below, count_below}
use Rattle.tree.specs.Tree.{Tree, nothing}
use Rattle.tree.specs.Shape.{Legal}
use Rattle.tree.specs.Asking.{owner, owns, owned, turns}
use Rattle.tree.specs.Sheet.{line_turns, idle_rounds, sheet, turns_on, sheet_total}
use Rattle.tree.specs.Lists.{Booking, Ledger, Entry, ledger_of, ledger_after, RoundFits}
use Rattle.tree.specs.Demand3.{Demand3From, Demand3}
use Rattle.tree.specs.Record.{tree_of}
use Rattle.tree.proofs.Searching.{some_below_at, some_below_none, each_below_length}
use Rattle.tree.proofs.Totals.{total_same, count_none}
use Rattle.tree.proofs.Numbering.{owner_below_64}
use Rattle.tree.proofs.Ownership.{owns_exactly}
use Rattle.tree.proofs.Sheets.{turns_on_sheet, line_turns_are, sheet_adds_up}
use Rattle.bridge.specs.Rows.{tree_of_rows}
use Rattle.bridge.proofs.TreeOfRecord.{tree_of_legal, legal_on_record}
use Rattle.gaplinte.specs.Served.{SheetServed, sheet_numbers}
use Rattle.history.specs.Ran.{Demand3OfCalls}
use Rattle.history.specs.RanOnRows.{Demand3OfRows}
use Rattle.history.specs.RanInLibrary.{entries_told, Demand3OfLibrary}
use Rattle.history.specs.Sheets.{fits, SheetFor, SheetOfCalls, SheetOfRows, sheet_told, SheetOfLibrary}
use Rattle.history.proofs.Demand3OfCalls.{demand_3_of_calls}
use Rattle.history.proofs.Demand3OfRows.{demand_3_of_rows}
use Rattle.history.proofs.Demand3OfLibrary.{demand_3_of_library}

-- the test says that the line is open and the round fits it
pub fits_exactly : (n : ℕ) (o : Option Booking) → (fits n o ≡ true) ↔ ((b : Booking) × (o ≡ Some b) × RoundFits n b)
unfolding fits RoundFits
fits_exactly n None = (λ h. absurd (false≢true h), λ x. absurd (none-some x.0 x.1))
fits_exactly n (Some c) =
    (λ h. (c, refl, eqb-true (n % c.period) c.start h), λ x. let same : c ≡ x.0 = cc in rw same (eq-eqb (n % x.0.period) x.0.start x.2))

-- Where demand 3 holds of a list and the tree that it left

module _ (first : Tree) (entries : List Entry) (t : Tree) (is_legal : Legal t) (claim : Demand3From first entries t) where
  abbrev ledger : Ledger
  ledger = ledger_after first entries

  -- a line owns a round exactly when by the ledger the round fits it
  owns_by_ledger : (L n : ℕ) → owns L n t ≡ fits n (ledger L)
  owns_by_ledger L n =
      let owned = claim.ownership n L in
      same_from_decides _ _ (Decides-like _ owned.0 owned.1 (owns_exactly L n t)) (fits_exactly n (ledger L))

  -- and it has an owner exactly when it fits some line
  owned_by_ledger : (n : ℕ) → owned n t ≡ some_below 64 (λ L. fits n (ledger L))
  unfolding owned found
  owned_by_ledger n = by_owner (owner n t) refl
    where
      by_owner : (o : Option ℕ) → owner n t ≡ o → found o ≡ some_below 64 (λ L. fits n (ledger L))
      by_owner None idle = sym (some_below_none 64 _ (λ L below. not-eq-not.0 (λ fitting.
          none-some L (sym idle ∙ (claim.ownership n L).1 ((fits_exactly n (ledger L)).0 fitting)))))
      by_owner (Some M) named = sym (some_below_at 64 _ M (owner_below_64 n t M is_legal named) ((fits_exactly n (ledger M)).1 ((claim.ownership n M).0 named)))

  module _ (a N : ℕ) where
    abbrev listed : Sheet
    listed = sheet a N t

    -- the turns of a line are the rounds that fit it; beyond the 64 lines nothing is listed, and no line is open
    turns_counted : (L : ℕ) → turns L a N t ≡ count_below N (λ i. fits (a + i) (ledger L))
    unfolding turns
    turns_counted L k = count_below N (λ i. owns_by_ledger L (a + i) k)

    nothing_listed : (L : ℕ) → 63 < L → turns_on listed L ≡ 0
    unfolding turns_on sheet
    nothing_listed L above = get_or-eq_default listed.turns 0 (omega (arith, each_below_length 64 (λ M. line_turns M a N t)))

    closed_counted : (L : ℕ) → ledger L ≡ None → count_below N (λ i. fits (a + i) (ledger L)) ≡ 0
    unfolding fits
    closed_counted L closed = count_none N _ (λ i. rw closed)

    turns_by_ledger : (L : ℕ) → turns_on listed L ≡ count_below N (λ i. fits (a + i) (ledger L))
    turns_by_ledger L =
        elim (dec_lt L 64) [
          | yes below ↦ turns_on_sheet a N t L below ∙ line_turns_are t is_legal L a N ∙ turns_counted L
          | no beyond ↦ nothing_listed L (omega arith) ∙ sym (closed_counted L (claim.line_range L (omega arith)))
        ]

    closed_0 : (L : ℕ) → ledger L ≡ None → turns_on listed L ≡ 0
    closed_0 L closed = turns_by_ledger L ∙ closed_counted L closed

    idle_by_ledger : listed.idle ≡ count_below N (λ i. not (some_below 64 (λ L. fits (a + i) (ledger L))))
    unfolding sheet idle_rounds
    idle_by_ledger k = count_below N (λ i. not (owned_by_ledger (a + i) k))

    -- closed lines add nothing
    open_alone : (L : ℕ) → (if found (ledger L) then turns_on listed L else 0) ≡ turns_on listed L
    unfolding found
    open_alone L = by_ledger (ledger L) refl
      where
        by_ledger : (o : Option Booking) → ledger L ≡ o → (if found o then turns_on listed L else 0) ≡ turns_on listed L
        by_ledger None closed = sym (closed_0 L closed)
        by_ledger (Some b) entered = refl

    all_together : total_below 64 (λ L. if found (ledger L) then turns_on listed L else 0) + listed.idle ≡ N
    unfolding sheet_total
    all_together = omega (arith, total_same 64 (λ L. if found (ledger L) then turns_on listed L else 0) (turns_on listed) (λ L below. open_alone L), sheet_adds_up t is_legal a N)

    pub demand_3_sheet : (s : Sheet) → s ≡ sheet a N t → SheetFor ledger a N s
    demand_3_sheet s asked = rw asked (record { turns_are = turns_by_ledger; closed_has_0 = closed_0; idle_are = idle_by_ledger; adds_up = all_together })

-- The sheet call on the plan that a list left

pub sheet_of_calls : SheetOfCalls
unfolding SheetOfCalls Demand3OfCalls Demand3 ledger_of
sheet_of_calls entries plan ran = demand_3_sheet nothing entries (tree_of plan) (tree_of_legal plan) (demand_3_of_calls entries plan ran)

pub sheet_of_rows : SheetOfRows
unfolding SheetOfRows Demand3OfRows Demand3 ledger_of
sheet_of_rows entries rows ran = demand_3_sheet nothing entries (tree_of_rows rows) (legal_on_record rows) (demand_3_of_rows entries rows ran)

-- of the library: what is read out of the numbers of a sheet is that sheet
numbers_told : (a N : ℕ) (t : Tree) → sheet_told (sheet_numbers (sheet a N t)) ≡ sheet a N t
unfolding sheet_told sheet_numbers sheet
numbers_told a N t =
    let listed = each_below_length 64 (λ L. line_turns L a N t) in
    rw (take_at (sheet a N t).turns (idle_rounds a N t ∷ []) 64 listed, get_or_at (sheet a N t).turns (idle_rounds a N t) [] 0 64 listed)

-- and so they are the sheet by the ledger
pub numbers_for_sheet : (first : Tree) (entries : List Entry) (rows : List ℕ) → Demand3From first entries (tree_of_rows rows) →
    (a N : ℕ) (numbers : List ℕ) (r : ℤ) → SheetServed rows a N numbers r → SheetFor (ledger_after first entries) a N (sheet_told numbers)
numbers_for_sheet first entries rows claim a N numbers r served =
    demand_3_sheet first entries (tree_of_rows rows) (legal_on_record rows) claim a N (sheet_told numbers)
    (ap sheet_told served.sheet_is ∙ numbers_told a N (tree_of_rows rows))

pub sheet_of_library : SheetOfLibrary
unfolding SheetOfLibrary Demand3OfLibrary Demand3 ledger_of
sheet_of_library calls rows ran = numbers_for_sheet nothing (entries_told calls) rows (demand_3_of_library calls rows ran)
