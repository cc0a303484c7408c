-- Demand 3 of lists that begin at a woven plan (specs/FromWoven.antt): the plan has the woven tree, which is legal.
-- Assumes nothing.
use Prim.Native.Nat.{ℕ}
use native.Mathlib.Omega.{arith}
use mathlib.Core.Path.{◌≡◌, refl, sym, ◌∙◌, ap, ap₂}
use mathlib.Core.List.{List}
use lib.IntN.{ℤ}
use Rattle.tree.specs.declared.Plan.{Plan}
use Rattle.tree.specs.Tree.{Tree, nothing}
use Rattle.tree.specs.Shape.{Legal}
use Rattle.tree.specs.Calls.{Outcome, gives, refuses}
use Rattle.tree.specs.Lists.{Entry, calls_of, ledger_of_tree, ledger_after, ledger_of, reference}
use Rattle.tree.specs.Weaving.{woven, weave_outcome, woven_booking}
use Rattle.tree.proofs.Demand3.{ledger_left}
use Rattle.tree.proofs.WovenLegal.{weave_gives}
use Rattle.tree.proofs.WovenLines.{woven_bookings}
use Rattle.bridge.specs.Rows.{tree_of_rows, rows_given}
use Rattle.bridge.proofs.TreeOfRecord.{legal_on_record}
use Rattle.weaving.proofs.WovenPlan.{given_has_tree, tree_woven}
use Rattle.gaplinte.specs.Answer.{answer_number, zero_value, outcome_told}
use Rattle.gaplinte.specs.WeavingServed.{WeaveServed}
use Rattle.gaplinte.proofs.Told.{weave_tells}
use Rattle.plan.specs.Meets.{empty_plan}
use Rattle.plan.proofs.Changes.{empty_tree}
use Rattle.history.specs.Ran.{Ran}
use Rattle.history.specs.FromPlan.{FromPlanOfCalls, FromPlanOfRows, FromPlanOfLibrary}
use Rattle.history.specs.OrdersRun.{FromPlanOfLists}
use Rattle.history.specs.FromWoven.{FromWovenOfCalls, FromWovenOfRows, FromWovenOfLibrary, FromWovenOfLists, FromWovenLists}
use Rattle.history.proofs.Demand3OfCalls.{ran_from}
use Rattle.history.proofs.FromPlan.{from_plan_of_calls, from_plan_of_rows, from_plan_of_library}
use Rattle.history.proofs.Demand3OfLists.{from_plan_of_lists}

module _ (a b : List ℕ) where
  abbrev outcome : Outcome Tree
  outcome = weave_outcome (tree_of_rows a) (tree_of_rows b)

  abbrev tree : Tree
  tree = woven (tree_of_rows a) (tree_of_rows b)

  woven_rows : (before first : List ℕ) (r : ℤ) → WeaveServed a b before first r → r ≡ answer_number (gives 0) → tree_of_rows first ≡ tree
  unfolding answer_number outcome_told zero_value rows_given tree_of_rows
  woven_rows before first r served done =
      by_outcome outcome refl (sym (ap outcome_told done) ∙ (weave_tells a b before first r served).told_is) served.rows_are
    where
      by_outcome : (o : Outcome Tree) → outcome ≡ o → gives 0 ≡ zero_value o → first ≡ rows_given o before → tree_of_rows first ≡ tree
      by_outcome (gives t) given told left = ap tree_of_rows left ∙ given_has_tree a b t given ∙ (weave_gives _ _ t given).1
      by_outcome (refuses n) given told left = let z : ◌≡◌ {A = ℕ} 0 1 = cc in absurd (omega arith)

pub from_woven_of_calls : FromWovenOfCalls
unfolding FromWovenOfCalls FromPlanOfCalls tree_of_rows
from_woven_of_calls a b first told entries last ran = rw (tree_woven a b first told) at (from_plan_of_calls entries first last ran)

pub from_woven_of_rows : FromWovenOfRows
unfolding FromWovenOfRows FromPlanOfRows
from_woven_of_rows a b first told entries last ran = rw (tree_woven a b first told) at (from_plan_of_rows entries first.rows last ran)

pub from_woven_of_library : FromWovenOfLibrary
unfolding FromWovenOfLibrary FromPlanOfLibrary
from_woven_of_library a b before first r served done calls last ran = rw (woven_rows a b before first r served done) at (from_plan_of_library calls first last ran)

pub from_woven_of_lists : FromWovenOfLists
unfolding FromWovenOfLists FromPlanOfLists tree_of_rows
from_woven_of_lists a b first told orders lent after written ran = rw (tree_woven a b first told) at (from_plan_of_lists first orders lent after written ran)

-- The two plans were left by lists of demand 3

-- the tree that a list left is its reference tree, and its ledger is that of this tree
left_by_list : (entries : List Entry) (last : Plan) → Ran empty_plan entries last →
    (tree_of_rows last.rows ≡ reference (calls_of entries)) × ((L : ℕ) → ledger_of_tree (tree_of_rows last.rows) L ≡ ledger_of entries L)
unfolding tree_of_rows reference Legal ledger_of
left_by_list entries last ran =
    let rules = rw empty_tree at (ran_from entries empty_plan last ran) in (
      rules.tree,
      λ L.
          ap (λ (t : Tree). ledger_of_tree t L) rules.tree
          ∙ sym (ledger_left nothing tt (calls_of entries) L)
          ∙ ap (λ (xs : List Entry). ledger_after nothing xs L) (sym rules.answers),
    )

pub from_woven_lists : FromWovenLists
unfolding FromWovenLists FromWovenOfCalls
from_woven_lists xs ys a b first ran_a ran_b told entries last ran =
    let left_a = left_by_list xs a ran_a in
    let left_b = left_by_list ys b ran_b in
    record {
      claims = rw (left_a.0, left_b.0) at (from_woven_of_calls a.rows b.rows first told entries last ran);
      ledger_begins = λ L.
          rw (← left_a.0, ← left_b.0)
          (woven_bookings _ _ L (legal_on_record a.rows) (legal_on_record b.rows)
          ∙ ap₂ woven_booking (left_a.1 L) (left_b.1 L));
    }
