-- What a trial tells of a first line, and that an open does what the trial told (specs/Trial.antt, document 02, Ask 3).
-- Assumes nothing.
use Prim.Native.Nat.{ℕ}
use native.Mathlib.Omega.{arith}
use mathlib.Core.Path.{◌≡◌, refl, sym, ◌∙◌, ap}
use mathlib.Core.Logic.{◌↔◌}
use mathlib.Core.Bool.{Bool, true, false, false≢true}
use Rattle.std.specs.Prelude.{Option, None, Some}
use Rattle.std.proofs.lemmas.Option.{same_Some}
use Rattle.tree.specs.Tree.{Tree, nothing, line, node, present, Place, at, step}
use Rattle.tree.specs.Shape.{Legal}
use Rattle.tree.specs.Opening.{best, chosen, opened}
use Rattle.tree.specs.Refusals.{open_refusal}
use Rattle.tree.specs.Calls.{open_line, refusal, reply, carried_out, answer_unless, tree_unless, answer, after, gives_unless}
use Rattle.tree.specs.Trial.{is_split, split_in, trial, trial_outcome, weight_at, NodeSplit, BroughtAbout}
use Rattle.tree.proofs.Opening.{MayOpen, room_chosen, start_empty}
use Rattle.tree.proofs.Checks.{open_may}
use Rattle.tree.proofs.NodesAdded.{opened_at_least_nodes, trial_added_empty}
use Rattle.tree.proofs.SplitWeights.{chosen_weights, split_changes_weight, nothing_no_weight, unsplit_keeps_weights}

-- In the empty plan

pub trial_empty : (L p : ℕ) → trial L p nothing ≡ record { start = 0; added = 1; split = false }
unfolding trial split_in chosen best
trial_empty L p i = record { start = start_empty p i; added = trial_added_empty L p i; split = false }

-- The open after the trial

module _ (L p : ℕ) where
  -- the empty plan has no node to split
  empty_split : (split_in p nothing (chosen p nothing) ≡ true) ↔ NodeSplit nothing (opened L p nothing)
  unfolding split_in chosen best weight_at at
  empty_split = (λ h. absurd (false≢true h), λ x. absurd (nothing_no_weight x.place.level x.place.offset x.weight x.weight_before))

  module _ (t : Tree) (may : MayOpen L p t) (here : present t ≡ true) (a : Place) (is_chosen : chosen p t ≡ Some a) where
    -- the chosen node is the one that was split
    split_if_told : is_split p (step a t) (at a t) ≡ true → NodeSplit t (opened L p t)
    split_if_told is =
        let x = chosen_weights L p t a may here is_chosen in
        record {
          place = a;
          weight = x.0;
          new_weight = x.1;
          weight_before = x.2;
          weight_after = x.3;
          another = λ same. (split_changes_weight L p t a may here is_chosen).0 is (x.3 ∙ ap Some same ∙ sym x.2);
        }

    -- where the chosen node is not split, no node has another weight
    told_if_split : NodeSplit t (opened L p t) → is_split p (step a t) (at a t) ≡ true
    told_if_split x = go (is_split p (step a t) (at a t)) refl
      where
        go : (b : Bool) → is_split p (step a t) (at a t) ≡ b → is_split p (step a t) (at a t) ≡ true
        go true e = e
        go false e =
            let kept = unsplit_keeps_weights L p t a may here is_chosen e x.place x.weight x.weight_before in
            absurd (x.another (same_Some x.new_weight x.weight (sym x.weight_after ∙ kept)))

  -- a node is split exactly where the trial says so
  told_split : (t : Tree) → MayOpen L p t → (split_in p t (chosen p t) ≡ true) ↔ NodeSplit t (opened L p t)
  unfolding Legal split_in present
  told_split nothing may = empty_split
  told_split (line n) may = absurd may.legal
  told_split (node w f) may =
      let x = room_chosen p (node w f) refl may.has_room in
      rw x.1 (split_if_told (node w f) may refl x.0 x.1, told_if_split (node w f) may refl x.0 x.1)

-- the open answers, adds and splits as the trial told, and is refused with the same number where the trial is refused
pub open_brings_about : (L p : ℕ) (t : Tree) → Legal t → BroughtAbout (trial_outcome L p t) (answer (open_line L p) t) t (after (open_line L p) t)
unfolding trial_outcome gives_unless answer answer_unless after tree_unless refusal reply carried_out BroughtAbout
open_brings_about L p t legal = go (open_refusal L p t) refl
  where
    go : (o : Option ℕ) → open_refusal L p t ≡ o → BroughtAbout (gives_unless o (trial L p t)) (answer_unless o (reply (open_line L p) t)) t (tree_unless o t (opened L p t))
    go (Some n) e = (refl, refl)
    go None e =
        let may = open_may L p t legal e in
        (unfold trial in (refl, omega (arith, opened_at_least_nodes L p t may), told_split L p t may))
