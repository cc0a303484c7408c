-- What is refused with 12 (document 02, Ask 7): its level, offset and class are bounded, and each lower class of its node is answered with a line or
-- refused with 12 too.
-- Assumes nothing.
use Rattle.std.specs.Prelude.{Option, Some}
use Prim.Native.Nat.{ℕ, zero, suc, ◌*◌, ◌/◌, ◌%◌, ◌^◌, ◌<◌, ◌≤◌, ◌∣◌}
use native.Mathlib.Omega.{arith}
use native.Mathlib.Nat.{pow-succ', mod-one, le_trans, lt_of_lt_of_le, lt_of_le_of_lt, mul-le-mul, le_of_dvd, div-le_self, div-mul_cancel, zero-mul, eq-zero-or-pos}
use native.Mathlib.Decide.{dec_lt}
use mathlib.Core.Path.{◌≡◌, refl, sym, ◌∙◌, ap}
use mathlib.Core.Logic.{◌⊎◌, inl, inr}
use mathlib.Core.Bool.{Bool, true, false, true≢false, false≢true, not-eq-not}
use lib.Pow.{pow_mono}
use borrow.Author.Tests.{ltb-true, lt-ltb, not-false}
use Rattle.tree.specs.Numbers.{divides}
use Rattle.tree.specs.Search.{found, some_below}
use Rattle.tree.specs.Tree.{Tree, nothing, line, node, present, product, Place, at_digits, at, way_by_digits, way, step}
use Rattle.tree.specs.Opening.{divisor, free, free_class, candidate, candidate_at, one_edge}
use Rattle.tree.specs.Shape.{LegalUnder, Alone, Legal}
use Rattle.tree.specs.Reason.{line_stands, is_node, has_class, line_in_class, reason}
use Rattle.tree.specs.Refusals.{period_out_of_range, reason_refusal}
use Rattle.tree.specs.Calls.{gives, refuses, reason_outcome}
use Rattle.tree.specs.Explained.{ClassOfNode}
use Rattle.tree.proofs.Searching.{some_below_at}
use Rattle.tree.proofs.Divisors.{divides_true, gcd_divides_right}
use Rattle.tree.proofs.Put.{put_same}
use Rattle.tree.proofs.Proper.{legal_proper}
use Rattle.tree.proofs.LedRounds.{offset_below_step}
use Rattle.tree.proofs.Depth.{step_at_most_2047}
use Rattle.tree.proofs.Checks.{range_positive, range_at_most, reason_refused_2}
use Rattle.tree.proofs.Checks.{refused_by}
use Rattle.tree.proofs.Reasons.{node_there, class_at_node, refused_12_class, reason_given, refused_12, lines_found}

-- the bounds of what is refused with 12: the class i at place a
pub record RefusedBounds (a : Place) (i : ℕ) : Type 0 where
  pub level_below : a.level < 11
  pub offset_below : a.offset < 4095
  pub class_below : i < 4095

-- The level of a node

-- each weight above a node is at least 2
two_a_level : (m l r : ℕ) (t : Tree) → LegalUnder m t → is_node (at_digits l r t) ≡ true → 2 ^ l ≤ product (way_by_digits l r t)
unfolding LegalUnder at_digits way_by_digits product is_node
two_a_level m zero r t legal here = omega arith
two_a_level m (suc l) r nothing legal here = absurd (false≢true here)
two_a_level m (suc l) r (line n) legal here = absurd (false≢true here)
two_a_level m (suc l) r (node w f) legal here =
    rw pow-succ' (mul-le-mul legal.0 (two_a_level (m * w) l (r / w) (f (r % w)) (legal.2 (r % w)) here))

-- no node stands under a line
line_no_node : (l r n : ℕ) → is_node (at_digits l r (line n)) ≡ false
unfolding at_digits is_node
line_no_node zero zero n = refl
line_no_node zero (suc r) n = refl
line_no_node (suc l) r n = refl

-- and so none under a root of weight 1
alone_level_0 : (l r : ℕ) (t : Tree) → Alone t → is_node (at_digits l r t) ≡ true → l ≡ 0
unfolding at_digits one_edge
alone_level_0 zero r t alone here = refl
alone_level_0 (suc l) r t alone here =
    absurd (false≢true (sym (line_no_node l (r / 1) alone.number) ∙ rw (alone.tree, mod-one r, put_same 0 0 (line alone.number) (λ e. nothing) refl) at here))

level_of_step : (l m : ℕ) → 2 ^ l ≤ m → m ≤ 2047 → l < 11
level_of_step l m power small =
    elim (dec_lt l 11) [ yes below ↦ below | no above ↦ absurd (omega (arith, pow_mono {i = 11} {j = l} (omega arith))) ]

level_by_step : (t : Tree) (a : Place) (w : ℕ) (f : ℕ → Tree) → Legal t → LegalUnder 1 t → at a t ≡ node w f → a.level < 11
unfolding at way step is_node
level_by_step t a w f legal under is =
    level_of_step a.level (step a t) (two_a_level 1 a.level a.offset t under (ap is_node is)) (step_at_most_2047 t a w f legal is)

level_below_11 : (t : Tree) (a : Place) (w : ℕ) (f : ℕ → Tree) → Legal t → at a t ≡ node w f → a.level < 11
unfolding Legal LegalUnder at is_node
level_below_11 nothing a w f legal is = level_by_step nothing a w f legal tt is
level_below_11 (line n) a w f legal is = absurd legal
level_below_11 (node v g) a w f (inl legal) is = level_by_step (node v g) a w f (inl legal) legal is
level_below_11 (node v g) a w f (inr alone) is = omega (arith, alone_level_0 a.level a.offset (node v g) alone (ap is_node is))

-- A class is below the period

-- the step divides the period, and the divisor d divides their quotient
quotient_positive : (m p : ℕ) → 0 < p → m ∣ p → 0 < p / m
quotient_positive m p positive divided = by_quotient (eq-zero-or-pos (p / m))
  where
    by_quotient : (p / m ≡ 0) ⊎ (0 < p / m) → 0 < p / m
    by_quotient (inl z) = let none : 0 ≡ p = sym (zero-mul m) ∙ ap (λ (n : ℕ). n * m) (sym z) ∙ div-mul_cancel m divided in absurd (omega arith)
    by_quotient (inr h) = h

divisor_at_most_period : (p m w : ℕ) → 0 < p → divides m p ≡ true → divisor p m w ≤ p
unfolding divisor
divisor_at_most_period p m w positive divided =
    le_trans (le_of_dvd (quotient_positive m p positive (divides_true m p divided)) (gcd_divides_right w (p / m))) (div-le_self p m)

class_below_period : (p m i : ℕ) (t : Tree) → 0 < p → divides m p ≡ true → has_class p m t i ≡ true → i < p
unfolding has_class
class_below_period p m i nothing positive divided class = absurd (false≢true class)
class_below_period p m i (line n) positive divided class = absurd (false≢true class)
class_below_period p m i (node w f) positive divided class = lt_of_lt_of_le (ltb-true i _ class) (divisor_at_most_period p m w positive divided)

lower_has_class : (p m i j : ℕ) (t : Tree) → i ≤ j → has_class p m t j ≡ true → has_class p m t i ≡ true
unfolding has_class
lower_has_class p m i j nothing lower class = class
lower_has_class p m i j (line n) lower class = class
lower_has_class p m i j (node w f) lower class = lt-ltb i _ (lt_of_le_of_lt lower (ltb-true j _ class))

-- What is refused with 12

module _ (p : ℕ) (a : Place) (j : ℕ) (t : Tree) (refused : reason_outcome p a j t ≡ refuses 12) where
  by_12 : reason_refusal p a j t ≡ Some 12
  unfolding reason_outcome
  by_12 = refused_by (reason_refusal p a j t) 12 (reason p a j t) refused

  pub class_of_12 : ClassOfNode p a j t
  class_of_12 = refused_12_class p a j t by_12

  -- the period is not refused with 2
  inside : period_out_of_range p ≡ false
  inside = not-eq-not.0 (λ out. let z : ◌≡◌ {A = Option ℕ} (Some 2) (Some 12) = sym (reason_refused_2 p a j t out) ∙ by_12 in cc)

  step_divides : divides (step a t) p ≡ true
  step_divides = by_test (divides (step a t) p) refl
    where
      by_test : (b : Bool) → divides (step a t) p ≡ b → divides (step a t) p ≡ true
      by_test true divided = divided
      by_test false other =
          let given = reason_given p a j t inside class_of_12 (λ divided. absurd (true≢false (sym divided ∙ other))) in
          let z : gives (reason p a j t) ≡ refuses 12 = sym given ∙ refused in
          cc

  no_line_there : found (line_in_class p (step a t) (at a t) j) ≡ false
  no_line_there = not-eq-not.0 (λ there.
      let given = reason_given p a j t inside class_of_12 (λ divided. there) in
      let z : gives (reason p a j t) ≡ refuses 12 = sym given ∙ refused in
      cc)

  -- (Ask 7, 4) The class is free, so that the node is a candidate.
  pub class_of_12_is_free : Legal t → (w : ℕ) (f : ℕ → Tree) → at a t ≡ node w f → (free (divisor p (step a t) w) w f j ≡ true) × (candidate_at p t a ≡ true)
  unfolding candidate_at candidate free_class some_below
  class_of_12_is_free legal w f here =
      let d = divisor p (step a t) w in
      let is_free = not-false _ (sym (lines_found p t legal a w f here j) ∙ no_line_there) in
      let below = class_at_node p (step a t) j (at a t) w f here (class_of_12.class_below step_divides) in
      (is_free, rw (here, step_divides) (some_below_at d (free d w f) j below is_free))

  -- (Ask 7, 4) A lower class of the node is one too: a line stands in it, or it is refused with 12.
  pub lower_class_told : (i : ℕ) → i ≤ j → ((L : ℕ) × (reason_outcome p a i t ≡ gives (line_stands L))) ⊎ (reason_outcome p a i t ≡ refuses 12)
  unfolding reason
  lower_class_told i lower = by_lines (found (line_in_class p (step a t) (at a t) i)) refl
    where
      class : ClassOfNode p a i t
      class =
          record {
            node_there = class_of_12.node_there;
            class_below = λ divided. lower_has_class p (step a t) i j (at a t) lower (class_of_12.class_below divided);
          }

      by_lines : (b : Bool) → found (line_in_class p (step a t) (at a t) i) ≡ b →
          ((L : ℕ) × (reason_outcome p a i t ≡ gives (line_stands L))) ⊎ (reason_outcome p a i t ≡ refuses 12)
      by_lines true there = inl (_, rw step_divides at (reason_given p a i t inside class (λ divided. there)))
      by_lines false missing = inr (refused_12 p a i t inside class step_divides missing)

  -- (Ask 7, 4) Level, offset and class of what is refused with 12 are bounded.
  pub refused_12_within : Legal t → RefusedBounds a j
  unfolding at way step present
  refused_12_within legal =
      let x = node_there (at a t) class_of_12.node_there in
      let positive = range_positive p inside in
      record {
        level_below = level_below_11 t a x.0 x.1 legal x.2;
        offset_below = omega (arith, offset_below_step a.level a.offset t (legal_proper t legal) (ap present x.2), step_at_most_2047 t a x.0 x.1 legal x.2);
        class_below = omega (arith, range_at_most p inside, class_below_period p (step a t) j (at a t) positive step_divides (class_of_12.class_below step_divides));
      }
