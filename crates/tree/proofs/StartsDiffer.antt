-- Two candidates never offer the same start (document 02, Ask 6). Of two under different edges of a node the starts leave different
-- edges modulo its weight; and the class that a node offers has no present edge, so no candidate below it has that start.
-- Assumes nothing.
use Prim.Native.Nat.{ℕ, ◌+◌, ◌*◌, ◌/◌, ◌<◌, ◌≤◌}
use native.Mathlib.Nat.{one-mul, mul-one, mul-zero, add-zero, mul-add, mul_assoc, mul_left_comm, add_assoc, zero-add, mod-eq_of_lt, le_of_dvd}
use native.Mathlib.Omega.{arith}
use mathlib.Core.Path.{◌≡◌, refl, sym, ◌∙◌, ap}
use mathlib.Core.Bool.{true, false, false≢true, and-eq-true_iff}
use mathlib.Core.Logic.{inl, inr}
use Rattle.std.specs.Prelude.{Some, unwrap_or}
use Rattle.tree.specs.Numbers.{divides}
use Rattle.tree.specs.Search.{found}
use Rattle.tree.specs.Tree.{Tree, nothing, line, node, present, Place, product, at_digits, at, way_by_digits, way, step}
use Rattle.tree.specs.Shape.{Legal}
use Rattle.tree.specs.Opening.{divisor, free, free_class, candidate, candidate_at, under, class_at, start_at}
use Rattle.tree.proofs.Digits.{digits_same}
use Rattle.tree.proofs.Divisors.{gcd_divides_left}
use Rattle.tree.proofs.Searching.{found_some, Smallest, smallest_some}
use Rattle.tree.proofs.Classes.{free_absent}
use Rattle.tree.proofs.Proper.{Proper, legal_proper}
use Rattle.tree.proofs.CandidatePlaces.{place, Under, at_under, step_under, CandidateFrom, FromNode, no_candidate_in_nothing, no_candidate_in_line, node_or_under}

-- the start that the node at a place of t offers, counted from t's root, which has step m
abbrev start_from : ℕ → ℕ → Tree → Place → ℕ
start_from p m t a = a.offset + unwrap_or (free_class p (m * step a t) (at a t)) 0 * step a t

-- under an edge the start counts from there
start_under : (p m w e : ℕ) (f : ℕ → Tree) (a : Place) → e < w → start_from p m (node w f) (under w e a) ≡ e + w * start_from p (m * w) (f e) a
unfolding under
start_under p m w e f a below =
    let s = step a (f e) in
    let class = unwrap_or (free_class p (m * w * s) (at a (f e))) 0 in
    rw (at_under w e below f a, step_under w e below f a, ← mul_assoc m w s, mul_left_comm class w s, mul-add w a.offset (class * s), add_assoc)

-- The class that a candidate offers

-- it is an edge of the node that is not present
record Offered (w : ℕ) (f : ℕ → Tree) (class : ℕ) : Type 0 where
  pub class_below : class < w
  pub absent : present (f class) ≡ false

divisor_at_most : (p m w : ℕ) → 0 < w → divisor p m w ≤ w
unfolding divisor
divisor_at_most p m w positive = le_of_dvd positive (gcd_divides_left w (p / m))

free_class_smallest : (p m w : ℕ) (f : ℕ → Tree) (i : ℕ) → free_class p m (node w f) ≡ Some i → Smallest (divisor p m w) (free (divisor p m w) w f) i
unfolding free_class
free_class_smallest p m w f i = smallest_some (divisor p m w) (free (divisor p m w) w f) i

class_offered : (p m w : ℕ) (f : ℕ → Tree) → 0 < w → candidate p m (node w f) ≡ true → Offered w f (unwrap_or (free_class p m (node w f)) 0)
unfolding candidate
class_offered p m w f positive h =
    let x = found_some (free_class p m (node w f)) ((and-eq-true_iff (divides m p) (found (free_class p m (node w f)))).0 h).1 in
    let smallest_free = free_class_smallest p m w f x.0 x.1 in
    let least = divisor_at_most p m w positive in
    rw x.1 record {
      class_below = omega (arith, smallest_free.in_range);
      absent = free_absent (divisor p m w) w f x.0 x.0 smallest_free.passes (omega (arith, smallest_free.in_range)) (mod-eq_of_lt smallest_free.in_range);
    }

-- Where a candidate stands, something is present

candidate_present : (p m : ℕ) (t : Tree) (a : Place) → CandidateFrom p m t a → present t ≡ true
unfolding present at
candidate_present p m nothing a h = absurd (false≢true (sym (no_candidate_in_nothing p _ a.level a.offset) ∙ h))
candidate_present p m (line n) a h = refl
candidate_present p m (node w f) a h = refl

module _ (p m w : ℕ) (f : ℕ → Tree) (positive : 0 < w) where
  abbrev BelowEdge : Place → Type 0
  BelowEdge b = (e : ℕ) × (e < w) × Under w e (CandidateFrom p (m * w) (f e)) b

  root_start : start_from p m (node w f) (place 0 0) ≡ unwrap_or (free_class p m (node w f)) 0
  unfolding step at way at_digits way_by_digits product
  root_start = rw (mul-one, mul-one) (zero-add (unwrap_or (free_class p m (node w f)) 0))

  -- the root and a candidate below it
  root_differs : candidate p m (node w f) ≡ true → (b : Place) → BelowEdge b → start_from p m (node w f) (place 0 0) ≡ start_from p m (node w f) b → ⊥
  root_differs h b below same =
      let offered = class_offered p m w f positive h in
      let e = below.0 in
      let a = below.2.0 in
      let digits : unwrap_or (free_class p m (node w f)) 0 + w * 0 ≡ e + w * start_from p (m * w) (f e) a = rw (mul-zero, add-zero) (sym root_start ∙ same ∙ ap (start_from p m (node w f)) below.2.2 ∙ start_under p m w e f a below.1) in
      let edge_is = (digits_same w _ 0 e _ offered.class_below below.1 digits).0 in
      false≢true (sym offered.absent ∙ ap (λ (k : ℕ). present (f k)) edge_is ∙ candidate_present p (m * w) (f e) a below.2.1)

  -- two candidates below it
  below_differ :
      ((e : ℕ) (a b : Place) → CandidateFrom p (m * w) (f e) a → CandidateFrom p (m * w) (f e) b → start_from p (m * w) (f e) a ≡ start_from p (m * w) (f e) b → a ≡ b) →
      (a b : Place) → BelowEdge a → BelowEdge b → start_from p m (node w f) a ≡ start_from p m (node w f) b → a ≡ b
  below_differ under_one a b x y same =
      let digits : x.0 + w * start_from p (m * w) (f x.0) x.2.0 ≡ y.0 + w * start_from p (m * w) (f y.0) y.2.0 =
      sym (start_under p m w x.0 f x.2.0 x.1) ∙ ap (start_from p m (node w f)) (sym x.2.2) ∙ same ∙ ap (start_from p m (node w f)) y.2.2 ∙ start_under p m w y.0 f y.2.0 y.1 in
      let two = digits_same w x.0 _ y.0 _ x.1 y.1 digits in
      let inner = under_one y.0 x.2.0 y.2.0 (rw two.0 at x.2.1) y.2.1 (rw two.0 at two.1) in
      x.2.2 ∙ (rw (two.0, inner) refl) ∙ sym y.2.2

  node_differs :
      ((e : ℕ) (a b : Place) → CandidateFrom p (m * w) (f e) a → CandidateFrom p (m * w) (f e) b → start_from p (m * w) (f e) a ≡ start_from p (m * w) (f e) b → a ≡ b) →
      (a b : Place) → FromNode p m w f a → FromNode p m w f b → start_from p m (node w f) a ≡ start_from p m (node w f) b → a ≡ b
  node_differs under_one a b (inl x) (inl y) same = x.0 ∙ sym y.0
  node_differs under_one a b (inl x) (inr y) same = absurd (root_differs x.1 b y (ap (start_from p m (node w f)) (sym x.0) ∙ same))
  node_differs under_one a b (inr x) (inl y) same = absurd (root_differs y.1 a x (ap (start_from p m (node w f)) (sym y.0) ∙ sym same))
  node_differs under_one a b (inr x) (inr y) same = below_differ under_one a b x y same

differ_from : (p m : ℕ) (t : Tree) → Proper t → (a b : Place) → CandidateFrom p m t a → CandidateFrom p m t b → start_from p m t a ≡ start_from p m t b → a ≡ b
unfolding Proper at
differ_from p m nothing v a b h k same = absurd (false≢true (sym (no_candidate_in_nothing p _ a.level a.offset) ∙ h))
differ_from p m (line n) v a b h k same = absurd (false≢true (sym (no_candidate_in_line p _ n a.level a.offset) ∙ h))
differ_from p m (node w f) v a b h k same =
    node_differs p m w f v.0 (λ e. differ_from p (m * w) (f e) (v.2 e)) a b (node_or_under p m w f v.0 a.level a.offset h) (node_or_under p m w f v.0 b.level b.offset k) same

-- The theorem, of every tree whose weights are above 0, and so of every tree of document 01

pub proper_starts_differ : (p : ℕ) (t : Tree) → Proper t → (a b : Place) → candidate_at p t a ≡ true → candidate_at p t b ≡ true → start_at p t a ≡ start_at p t b → a ≡ b
unfolding candidate_at start_at class_at
proper_starts_differ p t proper a b h k same =
    differ_from p 1 t proper a b (rw one-mul h) (rw one-mul k) (rw (one-mul, one-mul) same)

pub starts_differ : (p : ℕ) (t : Tree) → Legal t → (a b : Place) → candidate_at p t a ≡ true → candidate_at p t b ≡ true → start_at p t a ≡ start_at p t b → a ≡ b
starts_differ p t legal = proper_starts_differ p t (legal_proper t legal)
