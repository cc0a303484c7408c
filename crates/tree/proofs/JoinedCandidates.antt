-- A period that has a candidate has one after a join (`join`, specs/Closing.antt): the joined node is one where the node or a child of it was, and every other stays.
-- Assumes nothing.
use Prim.Native.Nat.{ℕ, ◌+◌, ◌*◌, ◌/◌, ◌%◌, ◌<◌, ◌∣◌}
use native.Mathlib.Omega.{arith}
use native.Mathlib.Nat.{mul_assoc, mul-pos, mod-lt, mod-eq_of_lt, mod-mod_of_dvd, mod-eq-zero_of_dvd, div-zero, div-div-eq-div-mul, mul-div_cancel', dvd-zero, dvd_trans, dvd_antisymm, le_of_dvd, dvd-mul_right, mul-dvd-mul_left, dvd_of_mul-dvd-mul_left, eq-zero-or-pos, lt_of_lt_of_le}
use mathlib.Core.Path.{◌≡◌, refl, sym, ◌∙◌, ap, subst}
use mathlib.Core.Logic.{◌⊎◌, inl, inr}
use mathlib.Core.Bool.{true, false, true≢false}
use Rattle.std.specs.Prelude.{Option, None, Some}
use borrow.Author.Tests.{eq-eqb}
use Rattle.tree.specs.Numbers.{divides, gcd}
use Rattle.tree.specs.Tree.{Tree, nothing, line, node, present}
use Rattle.tree.specs.Opening.{divisor, free, candidate}
use Rattle.tree.specs.Shape.{LegalUnder}
use Rattle.tree.specs.Closing.{weight_below, under_edge, joined_with, join}
use Rattle.tree.proofs.Digits.{digit, digits_below}
use Rattle.tree.proofs.Divisors.{divides_true, gcd_divides_left, gcd_divides_right, gcd_greatest, gcd_positive}
use Rattle.tree.proofs.Proper.{legal_under_proper, node_of_weight}
use Rattle.tree.proofs.Classes.{free_absent}
use Rattle.tree.proofs.Joining.{OneWeight, of_weight_either, weight_below_some, high_below, joined_edge}
use Rattle.tree.proofs.SomeCandidate.{HasCandidate, HereOrUnder, nothing_has_none, root_candidate, candidate_under, here_or_under, candidate_class, class_candidate, absent_free}

-- The divisor of the joined node

-- two numbers multiplied by w have w times the greatest common divisor
gcd_scaled : (w a b : ℕ) → 0 < w → gcd (w * a) (w * b) ≡ w * gcd a b
gcd_scaled w a b positive =
    let g = gcd (w * a) (w * b) in
    let h = g / w in
    let g_is : w * h ≡ g = mul-div_cancel' w (gcd_greatest w (w * a) (w * b) (dvd-mul_right w a) (dvd-mul_right w b)) in
    let left : h ∣ a = dvd_of_mul-dvd-mul_left h positive (subst (λ (n : ℕ). n ∣ w * a) (sym g_is) (gcd_divides_left (w * a) (w * b))) in
    let right : h ∣ b = dvd_of_mul-dvd-mul_left h positive (subst (λ (n : ℕ). n ∣ w * b) (sym g_is) (gcd_divides_right (w * a) (w * b))) in
    dvd_antisymm (subst (λ (n : ℕ). n ∣ w * gcd a b) g_is (mul-dvd-mul_left h w (gcd_greatest h a b left right)))
    (gcd_greatest (w * gcd a b) (w * a) (w * b) (mul-dvd-mul_left _ w (gcd_divides_left a b)) (mul-dvd-mul_left _ w (gcd_divides_right a b)))

-- w divides p/m where m·w divides p
factor_divides_quotient : (p m w : ℕ) → m * w ∣ p → w ∣ p / m
factor_divides_quotient p m w h = go (eq-zero-or-pos m)
  where
    go : (m ≡ 0) ⊎ (0 < m) → w ∣ p / m
    go (inl z) = rw (z, div-zero) (dvd-zero w)
    go (inr positive) = dvd_of_mul-dvd-mul_left w positive (rw (mul-div_cancel' m (dvd_trans m (dvd-mul_right m w) h)) h)

-- the joined node's divisor is w times that of a child of weight v
joined_divisor : (p m w v : ℕ) → 0 < w → m * w ∣ p → divisor p m (w * v) ≡ w * divisor p (m * w) v
unfolding divisor
joined_divisor p m w v positive h =
    let quotient : w * (p / (m * w)) ≡ p / m = ap (λ (n : ℕ). w * n) (sym (div-div-eq-div-mul p m w)) ∙ mul-div_cancel' w (factor_divides_quotient p m w h) in
    ap (gcd (w * v)) (sym quotient) ∙ gcd_scaled w v (p / (m * w)) positive

-- and the node's own divisor divides it
divisor_divides : (p m w v : ℕ) → divisor p m w ∣ divisor p m (w * v)
unfolding divisor
divisor_divides p m w v =
    gcd_greatest (gcd w (p / m)) (w * v) (p / m) (dvd_trans _ (gcd_divides_left w (p / m)) (dvd-mul_right w v)) (gcd_divides_right w (p / m))

-- where m·w divides p, so does m
divides_step : (p m w : ℕ) → divides (m * w) p ≡ true → divides m p ≡ true
unfolding divides
divides_step p m w h =
    eq-eqb (p % m) 0 (mod-eq-zero_of_dvd m (dvd_trans m (dvd-mul_right m w) (divides_true (m * w) p h)))

-- A node and those below it joined

-- an edge of class i modulo D comes from an edge of class i modulo d
class_of_edge : (d D w e i : ℕ) → d ∣ w → d ∣ D → i < d → e % D ≡ i → e % w % d ≡ i
class_of_edge d D w e i divides_weight divides_divisor below class =
    mod-mod_of_dvd d e divides_weight ∙ sym (mod-mod_of_dvd d e divides_divisor) ∙ ap (λ (n : ℕ). n % d) class ∙ mod-eq_of_lt below

absent_under_edge : (j : ℕ) (t : Tree) → present t ≡ false → present (under_edge j t) ≡ false
unfolding present under_edge
absent_under_edge j nothing h = refl
absent_under_edge j (line n) h = refl
absent_under_edge j (node w f) h = absurd (true≢false h)

-- the edges of the joined node
abbrev edges_joined : ℕ → (ℕ → Tree) → ℕ → Tree
edges_joined w f e = under_edge (e / w) (f (e % w))

module _ (w v : ℕ) (f : ℕ → Tree) (one : OneWeight w v f) where
  w_positive : 0 < w
  w_positive = let below = one.edge_below in omega arith

  -- a free class of the node is one of the joined node
  own_class_free : (d D i : ℕ) → d ∣ w → d ∣ D → i < d → free d w f i ≡ true → free D (w * v) (edges_joined w f) i ≡ true
  own_class_free d D i divides_weight divides_divisor below h =
      absent_free D (w * v) (edges_joined w f) i λ e e_below class.
      absent_under_edge (e / w) (f (e % w)) (free_absent d w f i (e % w) h (mod-lt e w_positive) (class_of_edge d D w e i divides_weight divides_divisor below class))

  -- of a free class j of the child under edge k the class k + w·j is free
  child_class_free : (k j d : ℕ) (g : ℕ → Tree) → k < w → f k ≡ node v g → j < d → free d v g j ≡ true → free (w * d) (w * v) (edges_joined w f) (k + w * j) ≡ true
  unfolding under_edge
  child_class_free k j d g below child class_below h =
      absent_free (w * d) (w * v) (edges_joined w f) (k + w * j) λ e e_below class.
      let digits = (digit e w d k j below class_below).0 class in
      rw (digits.0, child) (free_absent d v g j (e / w) h (high_below w v f one e e_below) digits.1)

  module _ (p m : ℕ) (v_positive : 0 < v) where
    -- the node is a candidate
    own_candidate : candidate p m (node w f) ≡ true → candidate p m (joined_with v w f) ≡ true
    unfolding joined_with divisor
    own_candidate h =
        let c = candidate_class p m w f h in
        let class = c.1 in
        let d_divides = divisor_divides p m w v in
        let at_most = le_of_dvd (gcd_positive (w * v) (p / m) (mul-pos w_positive v_positive)) d_divides in
        class_candidate p m (w * v) (edges_joined w f) c.0 (
          class.0,
          lt_of_lt_of_le class.1 at_most,
          own_class_free (divisor p m w) (divisor p m (w * v)) class.0 (gcd_divides_left w (p / m)) d_divides class.1 class.2,
        )

    module _ (k : ℕ) (g : ℕ → Tree) (below : k < w) (child : f k ≡ node v g) where
      -- the child under edge k is one
      child_candidate : candidate p (m * w) (node v g) ≡ true → candidate p m (joined_with v w f) ≡ true
      unfolding joined_with
      child_candidate h =
          let c = candidate_class p (m * w) v g h in
          let class = c.1 in
          let d = divisor p (m * w) v in
          class_candidate p m (w * v) (edges_joined w f) (divides_step p m w c.0)
          (rw (joined_divisor p m w v w_positive (divides_true (m * w) p c.0)) (
            k + w * class.0,
            digits_below w d k class.0 below class.1,
            child_class_free k class.0 d g below child class.1 class.2,
          ))

      -- one stands below edge j of the child
      below_child : (j : ℕ) → j < v → HasCandidate p (m * w * v) (g j) → HasCandidate p m (joined_with v w f)
      unfolding joined_with
      below_child j j_below h =
          candidate_under p m (w * v) (edges_joined w f) (mul-pos w_positive v_positive) (k + w * j) (digits_below w v k j below j_below)
          (rw (joined_edge w v f one k j below g child, ← mul_assoc) h)

      under_child : HasCandidate p (m * w) (node v g) → HasCandidate p m (joined_with v w f)
      under_child h = go (here_or_under p (m * w) v g v_positive h)
        where
          go : HereOrUnder p (m * w) v g → HasCandidate p m (joined_with v w f)
          go (inl c) = root_candidate p m (joined_with v w f) (child_candidate c)
          go (inr u) = below_child u.0 u.1 u.2

    joined_has_candidate : HasCandidate p m (node w f) → HasCandidate p m (joined_with v w f)
    joined_has_candidate h = go (here_or_under p m w f w_positive h)
      where
        under_edge_of : (k : ℕ) → k < w → HasCandidate p (m * w) (f k) → (f k ≡ nothing) ⊎ ((g : ℕ → Tree) × (f k ≡ node v g)) → HasCandidate p m (joined_with v w f)
        under_edge_of k below u (inl gone) = absurd (nothing_has_none p (m * w) (rw gone at u))
        under_edge_of k below u (inr child) = under_child k child.0 below child.1 (rw child.1 at u)

        go : HereOrUnder p m w f → HasCandidate p m (joined_with v w f)
        go (inl c) = root_candidate p m (joined_with v w f) (own_candidate c)
        go (inr u) = under_edge_of u.0 u.1 u.2 (of_weight_either v (f u.0) (one.all u.0 u.1))

pub join_keeps_candidate : (p m : ℕ) (t : Tree) → LegalUnder m t → HasCandidate p m t → HasCandidate p m (join t)
unfolding join LegalUnder
join_keeps_candidate p m nothing legal h = h
join_keeps_candidate p m (line n) legal h = h
join_keeps_candidate p m (node w f) legal h = go (weight_below w f) refl
  where
    go : (o : Option ℕ) → weight_below w f ≡ o → HasCandidate p m (elim o [ None ↦ node w f | Some v ↦ joined_with v w f ])
    go None e = h
    go (Some v) e =
        let one = weight_below_some w v f e in
        joined_has_candidate w v f one p m (node_of_weight v (f one.edge) (legal_under_proper (m * w) (f one.edge) (legal.2 one.edge)) one.leads_to).0 h
