-- Where the candidates of a tree stand: at its root, or under one of the root's edges.
-- Assumes nothing.
use Prim.Native.Nat.{ℕ, zero, suc, ◌*◌, ◌/◌, ◌%◌, ◌<◌}
use native.Mathlib.Nat.{mul-one, mul_assoc, mod-lt, mod-add-div}
use mathlib.Core.Path.{◌≡◌, refl, sym, ◌∙◌, ap₂}
use mathlib.Core.Bool.{true, false, false≢true, and-false}
use mathlib.Core.Logic.{inl, inr}
use Rattle.tree.specs.Numbers.{divides}
use Rattle.tree.specs.Search.{found}
use Rattle.tree.specs.Tree.{Tree, nothing, line, node, Place, product, at_digits, at, way_by_digits, way, step}
use Rattle.tree.specs.Opening.{free_class, candidate, under}
use Rattle.tree.proofs.Digits.{digit_low, digit_high}
use Rattle.tree.proofs.Picking.{Either, Below}

abbrev pub place : ℕ → ℕ → Place
place l r = record { level = l; offset = r }

-- Places counted from an edge of a node

-- a place that has property C where it is counted from edge e of a node of weight w
abbrev pub Under : ℕ → ℕ → (Place → Type 0) → Place → Type 0
Under w e C b = (a : Place) × C a × (b ≡ under w e a)

module _ (w e : ℕ) (below : e < w) where
  pub at_under : (f : ℕ → Tree) (a : Place) → at (under w e a) (node w f) ≡ at a (f e)
  unfolding at at_digits under
  at_under f a =
      ap₂ (λ d q. at_digits a.level q (f d)) (digit_low w e a.offset below) (digit_high w e a.offset below)

  pub step_under : (f : ℕ → Tree) (a : Place) → step (under w e a) (node w f) ≡ w * step a (f e)
  unfolding step way way_by_digits product under
  step_under f a =
      ap₂ (λ d q. w * product (way_by_digits a.level q (f d))) (digit_low w e a.offset below) (digit_high w e a.offset below)

-- Candidates, counted from a root of step m

-- the node at place b of t is a candidate for p, where t's root has step m
abbrev pub CandidateFrom : ℕ → ℕ → Tree → Place → Type 0
CandidateFrom p m t b = candidate p (m * step b t) (at b t) ≡ true

pub no_candidate_in_nothing : (p m l r : ℕ) → candidate p m (at_digits l r nothing) ≡ false
unfolding candidate free_class found at_digits
no_candidate_in_nothing p m zero zero = and-false (divides m p)
no_candidate_in_nothing p m zero (suc r) = and-false (divides m p)
no_candidate_in_nothing p m (suc l) r = and-false (divides m p)

pub no_candidate_in_line : (p m n l r : ℕ) → candidate p m (at_digits l r (line n)) ≡ false
unfolding candidate free_class found at_digits
no_candidate_in_line p m n zero zero = and-false (divides m p)
no_candidate_in_line p m n zero (suc r) = and-false (divides m p)
no_candidate_in_line p m n (suc l) r = and-false (divides m p)

module _ (p m w : ℕ) (f : ℕ → Tree) where
  -- the node itself is a candidate, or one stands under its edge e
  abbrev pub FromNode : Place → Type 0
  FromNode =
      Either (λ b. (b ≡ place 0 0) × (candidate p m (node w f) ≡ true))
      (λ b. Below w (λ e. Under w e (CandidateFrom p (m * w) (f e)) b))

  pub node_or_under : 0 < w → (l r : ℕ) → CandidateFrom p m (node w f) (place l r) → FromNode (place l r)
  unfolding step at way at_digits way_by_digits product under
  node_or_under v zero zero h = inl (refl, rw mul-one at h)
  node_or_under v zero (suc r) h = absurd (false≢true (sym (no_candidate_in_nothing p (m * 1) 0 0) ∙ h))
  node_or_under v (suc l) r h =
      inr (r % w, mod-lt r v, (place l (r / w), rw mul_assoc h, λ i. place (suc l) (sym (mod-add-div r w) i)))

  pub from_node : 0 < w → (b : Place) → FromNode b → CandidateFrom p m (node w f) b
  unfolding step at way at_digits way_by_digits product
  from_node v b (inl h) = rw (h.0, mul-one) h.1
  from_node v b (inr h) = rw (h.2.2, at_under w h.0 h.1, step_under w h.0 h.1, ← mul_assoc) h.2.1
