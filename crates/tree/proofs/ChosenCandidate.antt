-- The search for the chosen candidate, `chosen` of specs/Opening.antt, finds the one place that is chosen, and finds none only where no node is a candidate.
-- Assumes nothing.
use Rattle.std.specs.Prelude.{if◌then◌else◌, Option, None, Some, option_map}
use Prim.Native.Nat.{ℕ, ◌*◌, ◌<◌}
use native.Mathlib.Nat.{one-mul, le_refl, le_antisymm}
use mathlib.Core.Path.{◌≡◌, refl, sym, ◌∙◌, ap}
use mathlib.Core.Bool.{Bool, true, false, false≢true, not-eq-not}
use Rattle.tree.specs.Tree.{Tree, nothing, line, node, Place, at}
use Rattle.tree.specs.Opening.{candidate, candidate_at, start_at, NoCandidate, IsChosen, under, best, chosen}
use Rattle.tree.proofs.Proper.{Proper}
use Rattle.tree.proofs.Picking.{PicksBy, picks_same, picks_smaller, picks_smallest}
use Rattle.tree.proofs.CandidatePlaces.{place, Under, CandidateFrom, FromNode, no_candidate_in_nothing, no_candidate_in_line, node_or_under, from_node}
use Rattle.tree.proofs.StartsDiffer.{proper_starts_differ}

-- The search over a tree, by whatever key

picks_under : (key : Place → ℕ) (w e : ℕ) (C : Place → Type 0) (o : Option Place) → PicksBy (λ a. key (under w e a)) C o → PicksBy key (Under w e C) (option_map (under w e) o)
picks_under key w e C None P = λ b h. P h.0 h.1
picks_under key w e C (Some a) P = ((a, P.0, refl), λ b h. rw h.2 (P.1 h.0 h.1))

picks_root : (key : Place → ℕ) (t : Bool) → PicksBy key (λ b. (b ≡ place 0 0) × (t ≡ true)) (if t then Some (place 0 0) else None)
picks_root key true = ((refl, refl), λ b h. rw h.0 (le_refl (key (place 0 0))))
picks_root key false = λ b h. false≢true h.1

module _ (key : Place → ℕ) (p m w : ℕ) (f : ℕ → Tree) where
  node_picks :
      0 < w → ((e : ℕ) → PicksBy (λ a. key (under w e a)) (CandidateFrom p (m * w) (f e)) (best (λ a. key (under w e a)) p (m * w) (f e))) →
      PicksBy key (CandidateFrom p m (node w f)) (best key p m (node w f))
  unfolding best
  node_picks positive P =
      picks_same key (FromNode p m w f) _ (from_node p m w f positive) (λ b. node_or_under p m w f positive b.level b.offset) (best key p m (node w f))
      (picks_smaller key _ _ _ _ (picks_root key (candidate p m (node w f)))
      (picks_smallest key _ _ (λ e. picks_under key w e _ (best (λ a. key (under w e a)) p (m * w) (f e)) (P e)) w))

best_picks : (key : Place → ℕ) (p m : ℕ) (t : Tree) → Proper t → PicksBy key (CandidateFrom p m t) (best key p m t)
unfolding Proper best at
best_picks key p m nothing v = λ b h. false≢true (sym (no_candidate_in_nothing p _ b.level b.offset) ∙ h)
best_picks key p m (line n) v = λ b h. false≢true (sym (no_candidate_in_line p _ n b.level b.offset) ∙ h)
best_picks key p m (node w f) v = node_picks key p m w f v.0 (λ e. best_picks (λ a. key (under w e a)) p (m * w) (f e) (v.2 e))

chosen_picks : (p : ℕ) (t : Tree) → Proper t → PicksBy (start_at p t) (λ b. candidate_at p t b ≡ true) (chosen p t)
unfolding chosen candidate_at
chosen_picks p t v =
    picks_same (start_at p t) (CandidateFrom p 1 t) _ (λ b h. rw one-mul at h) (λ b h. rw one-mul h) (best (start_at p t) p 1 t) (best_picks (start_at p t) p 1 t v)

-- The search finds the chosen place, and none only where no node is a candidate

pub chosen_is_chosen : (p : ℕ) (t : Tree) (a : Place) → Proper t → chosen p t ≡ Some a → IsChosen p t a
chosen_is_chosen p t a v e =
    let P = rw e at (chosen_picks p t v) in
    record { is_candidate = P.0; smallest_start = P.1 }

pub chosen_none : (p : ℕ) (t : Tree) → Proper t → chosen p t ≡ None → NoCandidate p t
unfolding NoCandidate
chosen_none p t v e a = not-eq-not.0 ((rw e at (chosen_picks p t v)) a)

-- One place at most is the chosen one, and the search finds it where there is one

pub chosen_only : (p : ℕ) (t : Tree) (a b : Place) → Proper t → IsChosen p t a → IsChosen p t b → a ≡ b
chosen_only p t a b v A B =
    proper_starts_differ p t v a b A.is_candidate B.is_candidate (le_antisymm (A.smallest_start b B.is_candidate) (B.smallest_start a A.is_candidate))

pub no_candidate_chosen_none : (p : ℕ) (t : Tree) → Proper t → NoCandidate p t → chosen p t ≡ None
unfolding NoCandidate
no_candidate_chosen_none p t v h = by_outcome (chosen p t) refl
  where
    by_outcome : (o : Option Place) → chosen p t ≡ o → o ≡ None
    by_outcome None e = refl
    by_outcome (Some a) e = absurd (false≢true (sym (h a) ∙ (chosen_is_chosen p t a v e).is_candidate))

pub is_chosen_chosen : (p : ℕ) (t : Tree) (a : Place) → Proper t → IsChosen p t a → chosen p t ≡ Some a
unfolding NoCandidate
is_chosen_chosen p t a v A = by_outcome (chosen p t) refl
  where
    by_outcome : (o : Option Place) → chosen p t ≡ o → o ≡ Some a
    by_outcome None e = absurd (false≢true (sym (chosen_none p t v e a) ∙ A.is_candidate))
    by_outcome (Some b) e = ap Some (chosen_only p t b a v (chosen_is_chosen p t b v e) A)
