-- The rest that the owner call tells after a list of opens and closes is the one by the ledger (specs/Ran.antt), by value and on a lent record; that of the
-- library is in Demand3OfLibrary.antt.
-- Assumes nothing.
use Prim.Native.Nat.{ℕ, ◌+◌}
use mathlib.Core.Path.{◌≡◌, sym, ◌∙◌, ap}
use mathlib.Core.Bool.{true, false, true≢false, not-eq-not}
use mathlib.Core.List.{List}
use Rattle.std.specs.Prelude.{Some}
use Rattle.tree.specs.Search.{found}
use Rattle.tree.specs.Tree.{Tree, nothing, present}
use Rattle.tree.specs.Shape.{Legal}
use Rattle.tree.specs.Asking.{owner, owned, idle_for, owner_or_rest}
use Rattle.tree.specs.Lists.{Booking, Ledger, Entry, ledger_of, ledger_after, RoundFits}
use Rattle.tree.specs.Demand3.{SomeOpen, Demand3From, Demand3}
use Rattle.tree.specs.Record.{tree_of}
use Rattle.tree.proofs.Searching.{found_some}
use Rattle.tree.proofs.UnderEdge.{stands_present}
use Rattle.tree.proofs.Proper.{legal_proper}
use Rattle.tree.proofs.Standing.{open_stands, stands_open}
use Rattle.tree.proofs.Clearing.{proper_present_line}
use Rattle.tree.proofs.Resting.{rest_is_rest, rest_at_most, rest_0_exactly, idle_exactly}
use Rattle.bridge.specs.Rows.{tree_of_rows}
use Rattle.bridge.proofs.TreeOfRecord.{tree_of_legal, legal_on_record}
use Rattle.plan.specs.declared.ask.OwnerAnswer.{OwnerAnswer}
use Rattle.plan.specs.Ask.{owner_answer}
use Rattle.history.specs.Ran.{Demand3OfCalls, RestsFor, TellsRest, RestOfCalls}
use Rattle.history.specs.RanOnRows.{Demand3OfRows, RestOfRows}
use Rattle.history.proofs.Demand3OfCalls.{demand_3_of_calls}
use Rattle.history.proofs.Demand3OfRows.{demand_3_of_rows}

-- Where demand 3 holds of a list and the tree that it left

module _ (first : Tree) (entries : List Entry) (t : Tree) (is_legal : Legal t) (claim : Demand3From first entries t) where
  abbrev ledger : Ledger
  ledger = ledger_after first entries

  -- a line is open by the ledger exactly when the tree is not empty
  some_open : present t ≡ true → SomeOpen ledger
  unfolding SomeOpen
  some_open here =
      let x = proper_present_line t (legal_proper t is_legal) here in
      let entered = found_some (ledger x.0) (sym (claim.open_lines x.0) ∙ stands_open x.0 t _ _ x.3) in
      (x.0, entered.0, entered.1)

  not_empty : SomeOpen ledger → present t ≡ true
  unfolding SomeOpen found
  not_empty x = stands_present x.0 t _ _ (open_stands x.0 t (claim.open_lines x.0 ∙ ap found x.2))

  pub rest_by_ledger : (round g : ℕ) → owner_or_rest round t ≡ idle_for g → RestsFor ledger round g
  unfolding owned found
  rest_by_ledger round g told =
      let idle = (idle_exactly round t g).0 told in
      let is_rest = rw idle.1 at (rest_is_rest t is_legal round) in
      let zero_where_empty = rest_0_exactly t is_legal round idle.0 in
      record {
        zero_exactly = (
          λ zero_rest one_open. absurd (true≢false (sym (not_empty one_open) ∙ zero_where_empty.0 (idle.1 ∙ zero_rest))),
          λ none_open. sym idle.1 ∙ zero_where_empty.1 (no_line none_open),
        );
        next_owned = λ one_open. fitting (round + g) (found_some (owner (round + g) t) (is_rest.next_owned (not_empty one_open)));
        none_before = λ k less L b entered fits. true≢false (sym (ap found ((claim.ownership (round + k) L).1 (b, entered, fits))) ∙ is_rest.none_before k less);
        at_most = rw idle.1 at (rest_at_most t is_legal round);
      }
    where
      no_line : (SomeOpen ledger → ⊥) → present t ≡ false
      no_line none_open = not-eq-not.0 (λ here. none_open (some_open here))

      fitting : (n : ℕ) → (L : ℕ) × (owner n t ≡ Some L) → (L : ℕ) × (b : Booking) × (ledger L ≡ Some b) × RoundFits n b
      fitting n x = let fits = (claim.ownership n x.0).0 x.1 in (x.0, fits.0, fits.1, fits.2)

  pub demand_3_tells_rest : (round : ℕ) (a : OwnerAnswer) → owner_answer a ≡ owner_or_rest round t → TellsRest ledger round a
  unfolding TellsRest owner_answer
  demand_3_tells_rest round a asked g idle = rest_by_ledger round g (sym asked ∙ ap owner_answer idle)

-- The owner call on the plan that a list left, by value and on a lent record

pub rest_of_calls : RestOfCalls
unfolding RestOfCalls Demand3OfCalls Demand3 ledger_of
rest_of_calls entries plan ran = demand_3_tells_rest nothing entries (tree_of plan) (tree_of_legal plan) (demand_3_of_calls entries plan ran)

pub rest_of_rows : RestOfRows
unfolding RestOfRows Demand3OfRows Demand3 ledger_of
rest_of_rows entries rows ran = demand_3_tells_rest nothing entries (tree_of_rows rows) (legal_on_record rows) (demand_3_of_rows entries rows ran)
