-- The ways that a trial can go on a legal record, by what the checks and the search of the open find.
-- Assumes nothing.
use Prim.Native.Nat.{ℕ}
use mathlib.Core.Path.{◌≡◌, sym, ◌∙◌, ap}
use mathlib.Core.Bool.{false}
use mathlib.Core.List.{List}
use Rattle.std.specs.Prelude.{None, Some}
use lib.ListN.{length}
use Rattle.tree.specs.Refusals.{open_refusal}
use Rattle.tree.specs.Calls.{gives, refuses, gives_unless}
use Rattle.tree.specs.Trial.{Trial, trial, trial_outcome}
use Rattle.tree.specs.Record.{path_at}
use Rattle.paths.specs.Rules.{Spot, trial_at}
use Rattle.tree.proofs.Trials.{trial_empty}
use Rattle.bridge.specs.Rows.{plan_of, tree_of_rows}
use Rattle.bridge.proofs.FirstRecord.{all_closed_nothing}
use Rattle.bridge.proofs.CallsOnRecords.{first_not_refused, not_refused}
use Rattle.bridge.proofs.TrialOnPaths.{trial_at_is}
use Rattle.candidates.specs.Edges.{ClosedFrom}
use Rattle.lines.specs.Bookable.{Bookable, BookableAt}
use Rattle.lines.proofs.OpenLine.{all_closed, found_spot, may_open_at, product_fits, product_not_zero, spot_splittable}
use Rattle.trials.specs.Tryable.{Tryable}

module _ (rows : List ℕ) (L p : ℕ) where
  pub trial_refused : {n : ℕ} → open_refusal L p (tree_of_rows rows) ≡ Some n → refuses n ≡ trial_outcome L p (tree_of_rows rows)
  unfolding trial_outcome gives_unless
  trial_refused refused = rw refused

  not_refused_gives : open_refusal L p (tree_of_rows rows) ≡ None → gives (trial L p (tree_of_rows rows)) ≡ trial_outcome L p (tree_of_rows rows)
  unfolding trial_outcome gives_unless
  not_refused_gives allowed = rw allowed

  -- Under the root of an empty plan

  pub trial_first : Bookable rows L p → length rows ≡ 1408 → ClosedFrom rows 0 → gives (record { start = 0; added = 1; split = false }) ≡ trial_outcome L p (tree_of_rows rows)
  unfolding tree_of_rows
  trial_first ready long closed =
      let empty = all_closed_nothing (plan_of rows) ready.is_legal (all_closed closed) in
      sym (ap gives (ap (trial L p) empty ∙ trial_empty L p))
      ∙ not_refused_gives (first_not_refused rows ready.is_legal long L p ready.number ready.inside ready.absent (all_closed closed))

  -- At the chosen candidate

  module _ (s : Spot) (ready_at : BookableAt rows L p s) (long : length rows ≡ 1408) where
    pub spot_tryable : Tryable rows s
    spot_tryable =
        let node_of_spot = spot_splittable rows L p s ready_at long in
        record {
          on_path = node_of_spot.on_path;
          product_positive = product_not_zero rows L p s ready_at long;
          product_in_range = product_fits rows L p s ready_at long;
        }

    pub trial_booked : {told : Trial} → told ≡ trial_at (path_at rows) p s → gives told ≡ trial_outcome L p (tree_of_rows rows)
    unfolding tree_of_rows
    trial_booked counted =
        let ready = ready_at.bookable in
        ap gives (counted ∙ trial_at_is (plan_of rows) L p s ready.is_legal long (may_open_at rows L p s ready_at long) (found_spot rows L p s ready_at long))
        ∙ not_refused_gives (not_refused rows ready.is_legal long L p ready.number ready.inside ready.absent s ready_at.found_one)
