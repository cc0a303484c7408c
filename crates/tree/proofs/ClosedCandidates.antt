-- A period that had a candidate before the joining of a close has one after it (specs/Closing.antt).
-- Assumes nothing.
use Prim.Native.Nat.{ℕ, ◌*◌}
use native.Mathlib.Omega.{arith}
use native.Mathlib.Nat.{one-mul}
use mathlib.Core.Path.{◌≡◌}
use mathlib.Core.Logic.{inl, inr}
use mathlib.Core.Bool.{true}
use Rattle.tree.specs.Tree.{Tree, nothing, line, node, Place, path_of}
use Rattle.tree.specs.Opening.{candidate_at, put}
use Rattle.tree.specs.Shape.{LegalUnder, Legal}
use Rattle.tree.specs.Closing.{cleared, closed}
use Rattle.tree.proofs.SomeCandidate.{HasCandidate, nothing_has_none, put_keeps_candidate}
use Rattle.tree.proofs.JoinedCandidates.{join_keeps_candidate}
use Rattle.tree.proofs.Clearing.{cleared_legal_under}
use Rattle.tree.proofs.Closing.{alone_joins_none}
use Rattle.tree.proofs.JoinedUp.{Kept, kept_itself, kept_next, put_keeps, join_keeps, OfJoins, joined_up_has}

-- from t to u no period loses its last candidate either
pub record CandidatesKept (t u : Tree) : Type 0 where
  pub kept : Kept t u
  pub candidates : (p m : ℕ) → LegalUnder m t → HasCandidate p m t → HasCandidate p m u

candidates_under : (w i : ℕ) (f : ℕ → Tree) (t : Tree) → CandidatesKept (f i) t → CandidatesKept (node w f) (node w (put i t f))
unfolding LegalUnder
candidates_under w i f t h = record {
  kept = put_keeps w i f t h.kept;
  candidates = λ p m legal. let two = legal.0 in put_keeps_candidate p m w i f t (omega arith) h.kept.presence (h.candidates p (m * w) (legal.2 i));
}

pub candidates_of_joins : OfJoins CandidatesKept
candidates_of_joins = record {
  itself = λ t. record { kept = kept_itself t; candidates = λ p m legal h. h };
  next = λ t u v a b. record {
    kept = kept_next t u v a.kept b.kept;
    candidates = λ p m legal h. b.candidates p m (a.kept.legal m legal) (a.candidates p m legal h);
  };
  under_an_edge = candidates_under;
  once = λ t. record { kept = join_keeps t; candidates = λ p m. join_keeps_candidate p m t };
}

-- candidates counted from a root of step 1
pub from_root : (p : ℕ) (t : Tree) (a : Place) → candidate_at p t a ≡ true → HasCandidate p 1 t
unfolding candidate_at
from_root p t a h = (a, rw one-mul h)

pub at_root : (p : ℕ) (t : Tree) → HasCandidate p 1 t → (b : Place) × (candidate_at p t b ≡ true)
unfolding candidate_at
at_root p t h = (h.0, rw one-mul at h.1)

pub closed_keeps_candidates : (L p : ℕ) (t : Tree) → Legal t → (a : Place) → candidate_at p (cleared L t) a ≡ true → (b : Place) × (candidate_at p (closed L t) b ≡ true)
unfolding closed cleared Legal
closed_keeps_candidates L p nothing legal a h = absurd (nothing_has_none p 1 (from_root p nothing a h))
closed_keeps_candidates L p (line n) legal a h = absurd legal
closed_keeps_candidates L p (node w f) (inl legal) a h =
    let t = node w f in
    let kept = joined_up_has CandidatesKept candidates_of_joins (path_of L t) (cleared L t) in
    at_root p (closed L t) (kept.candidates p 1 (cleared_legal_under L 1 t legal) (from_root p (cleared L t) a h))
closed_keeps_candidates L p (node w f) (inr alone) a h =
    (a, rw (alone_joins_none L (node w f) alone) h)
