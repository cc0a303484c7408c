-- Whether some node of a tree is a candidate for a period: by its root and what stands under its edges, by the free classes of a node, and after something was put under an edge.
-- Assumes nothing.
use Prim.Native.Nat.{ℕ, ◌*◌, ◌%◌, ◌<◌}
use native.Mathlib.Decide.{ℕ_discrete}
use native.Mathlib.Nat.{mul-one}
use mathlib.Core.Path.{◌≡◌, refl, sym, ◌∙◌, ap}
use mathlib.Core.Logic.{◌⊎◌, inl, inr}
use mathlib.Core.Bool.{Bool, true, false, not, ◌&&◌, false≢true, and-eq-true_iff}
use lib.Dec.{eqb}
use borrow.Author.Tests.{eqb-true}
use Rattle.tree.specs.Numbers.{divides}
use Rattle.tree.specs.Search.{some_below}
use Rattle.tree.specs.Tree.{Tree, nothing, node, present, Place, product, at_digits, at, way_by_digits, way, step}
use Rattle.tree.specs.Opening.{divisor, free, free_class, candidate, under, put}
use Rattle.tree.proofs.Searching.{some_below_true, some_below_at, some_below_none}
use Rattle.tree.proofs.Put.{put_same, put_other, put_present}
use Rattle.tree.proofs.Classes.{free_absent}
use Rattle.tree.proofs.CandidatePlaces.{place, CandidateFrom, FromNode, no_candidate_in_nothing, node_or_under, from_node}

-- Some node of t is a candidate for p, where t's root has step m.
abbrev pub HasCandidate : ℕ → ℕ → Tree → Type 0
HasCandidate p m t = (b : Place) × CandidateFrom p m t b

pub nothing_has_none : (p m : ℕ) → HasCandidate p m nothing → ⊥
unfolding at
nothing_has_none p m h = false≢true (sym (no_candidate_in_nothing p _ h.0.level h.0.offset) ∙ h.1)

pub root_candidate : (p m : ℕ) (t : Tree) → candidate p m t ≡ true → HasCandidate p m t
unfolding step way way_by_digits product at at_digits
root_candidate p m t h = (place 0 0, rw mul-one h)

-- The node itself is one, or one stands under its edge e.
abbrev pub HereOrUnder : ℕ → ℕ → ℕ → (ℕ → Tree) → Type 0
HereOrUnder p m w f = (candidate p m (node w f) ≡ true) ⊎ ((e : ℕ) × (e < w) × HasCandidate p (m * w) (f e))

module _ (p m w : ℕ) (f : ℕ → Tree) (positive : 0 < w) where
  pub candidate_under : (e : ℕ) → e < w → HasCandidate p (m * w) (f e) → HasCandidate p m (node w f)
  candidate_under e below h =
      let b = under w e h.0 in
      (b, from_node p m w f positive b (inr (e, below, (h.0, h.1, refl))))

  pub here_or_under : HasCandidate p m (node w f) → HereOrUnder p m w f
  here_or_under h = go (node_or_under p m w f positive h.0.level h.0.offset h.1)
    where
      go : FromNode p m w f h.0 → HereOrUnder p m w f
      go (inl x) = inl x.1
      go (inr x) = inr (x.0, x.1, (x.2.0, x.2.1))

-- A node is a candidate where m divides p and some class is free

abbrev pub FreeClass : ℕ → ℕ → (ℕ → Tree) → Type 0
FreeClass d w f = (i : ℕ) × (i < d) × (free d w f i ≡ true)

module _ (p m w : ℕ) (f : ℕ → Tree) where
  pub candidate_class : candidate p m (node w f) ≡ true → (divides m p ≡ true) × FreeClass (divisor p m w) w f
  unfolding candidate free_class some_below
  candidate_class h =
      let d = divisor p m w in
      let both = (and-eq-true_iff (divides m p) (some_below d (free d w f))).0 h in
      (both.0, some_below_true d (free d w f) both.1)

  pub class_candidate : divides m p ≡ true → FreeClass (divisor p m w) w f → candidate p m (node w f) ≡ true
  unfolding candidate free_class some_below
  class_candidate h class =
      let d = divisor p m w in
      (and-eq-true_iff (divides m p) (some_below d (free d w f))).1 (h, some_below_at d (free d w f) class.0 class.1 class.2)

-- a class is free where none of its edges is present
pub absent_free : (d w : ℕ) (f : ℕ → Tree) (i : ℕ) → ((e : ℕ) → e < w → e % d ≡ i → present (f e) ≡ false) → free d w f i ≡ true
unfolding free
absent_free d w f i absent = ap not (some_below_none w _ λ e below. none_there e below (eqb (e % d) i) refl)
  where
    none_there : (e : ℕ) → e < w → (b : Bool) → eqb (e % d) i ≡ b → (b && present (f e)) ≡ false
    none_there e below true same = absent e below (eqb-true (e % d) i same)
    none_there e below false other = refl

-- Something put under an edge

module _ (w e : ℕ) (f : ℕ → Tree) (x : Tree) (same_present : present x ≡ present (f e)) where
  -- a node's classes hang on nothing but which edges are present
  put_class_free : (d i : ℕ) → free d w f i ≡ true → free d w (put e x f) i ≡ true
  put_class_free d i h = absent_free d w (put e x f) i λ k below class. put_present e x f same_present k ∙ free_absent d w f i k h below class

  put_candidate : (p m : ℕ) → candidate p m (node w f) ≡ true → candidate p m (node w (put e x f)) ≡ true
  put_candidate p m h =
      let c = candidate_class p m w f h in
      let class = c.1 in
      class_candidate p m w (put e x f) c.0 (class.0, class.1, put_class_free (divisor p m w) class.0 class.2)

put_under : (p m e : ℕ) (f : ℕ → Tree) (x : Tree) → (HasCandidate p m (f e) → HasCandidate p m x) → (k : ℕ) → HasCandidate p m (f k) → HasCandidate p m (put e x f k)
put_under p m e f x keeps k h =
    elim (ℕ_discrete k e) [
      | yes same ↦ rw (put_same e k x f same) (keeps (rw same at h))
      | no other ↦ rw (put_other e k x f other) h
    ]

pub put_keeps_candidate : (p m w e : ℕ) (f : ℕ → Tree) (x : Tree) → 0 < w → present x ≡ present (f e) → (HasCandidate p (m * w) (f e) → HasCandidate p (m * w) x) →
    HasCandidate p m (node w f) → HasCandidate p m (node w (put e x f))
put_keeps_candidate p m w e f x positive same keeps h = go (here_or_under p m w f positive h)
  where
    go : HereOrUnder p m w f → HasCandidate p m (node w (put e x f))
    go (inl c) = root_candidate p m (node w (put e x f)) (put_candidate w e f x same p m c)
    go (inr u) = candidate_under p m w (put e x f) positive u.0 u.1 (put_under p (m * w) e f x keeps u.0 u.2)
