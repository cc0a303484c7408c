-- A trial: what an open would do, and what is meant by its doing so (document 02, Ask 3).
-- Assumes nothing.
use Rattle.std.specs.Prelude.{ℕ, ◌+◌, ◌-◌, ◌≡◌, ◌↔◌, Bool, true, false, ltb, Option, None, Some}
use Rattle.tree.specs.Tree.{Tree, nothing, line, node, Place, at, step, weight_of, nodes}
use Rattle.tree.specs.Opening.{divisor, chosen, opened, start_given}
use Rattle.tree.specs.Refusals.{open_refusal}
use Rattle.tree.specs.Calls.{Answer, booked, refused, Outcome, gives, refuses, gives_unless}

-- (Ask 3, 2) The figures of an open that is not refused: its start, how many nodes it adds, and if it splits one.
pub record Trial : Type 0 where
  pub start : ℕ
  pub added : ℕ
  pub split : Bool

-- (Ask 3, 2) A booking of period p into a node of step m splits it: d is below its weight.
unfoldable pub is_split : ℕ → ℕ → Tree → Bool
is_split p m nothing = false
is_split p m (line n) = false
is_split p m (node w f) = ltb (divisor p m w) w

-- the node at the place of the chosen candidate is split; the empty plan has no candidate, and in any other without one the trial is refused with 5
unfoldable pub split_in : ℕ → Tree → Option Place → Bool
split_in p t None = false
split_in p t (Some a) = is_split p (step a t) (at a t)

-- (Ask 3, 2) start: what open answers; added: how many nodes more the opened tree has; split: d is below w in the chosen candidate.
-- That the opened tree never has fewer nodes is proved (proofs/NodesAdded.antt).
unfoldable pub trial : ℕ → ℕ → Tree → Trial
trial L p t =
    record {
      start = start_given p t;
      added = nodes (opened L p t) - nodes t;
      split = split_in p t (chosen p t);
    }

-- (Ask 3, 2, 4) A trial is refused as the open is, by the same checks in the same sequence.
unfoldable pub trial_outcome : ℕ → ℕ → Tree → Outcome Trial
trial_outcome L p t = gives_unless (open_refusal L p t) (trial L p t)

-- The open made next

-- the weight of the node at a place, none where no node stands there
unfoldable pub weight_at : Place → Tree → Option ℕ
weight_at a t = weight_of (at a t)

-- a node was split: at some place a node stands before and after, with another weight
pub record NodeSplit (before after : Tree) : Type 0 where
  pub place : Place
  pub weight : ℕ
  pub new_weight : ℕ
  pub weight_before : weight_at place before ≡ Some weight
  pub weight_after : weight_at place after ≡ Some new_weight
  pub another : new_weight ≡ weight → ⊥

-- (Ask 3, 4) An open that answered a, and led from one tree to another, did what the trial said.
unfoldable pub BroughtAbout : Outcome Trial → Answer → Tree → Tree → Type 0
BroughtAbout (refuses n) a before after = (a ≡ refused n) × (after ≡ before)
BroughtAbout (gives told) a before after =
    (a ≡ booked told.start) × (nodes after ≡ nodes before + told.added) × ((told.split ≡ true) ↔ NodeSplit before after)
