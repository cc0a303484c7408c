-- A booking into a free class of a node: the lines that stood in it stand as before, the new one stands with its period and start,
-- and what is legal stays legal. Of the divisor d only that it divides the weight and the period's quotient is used.
-- Assumes nothing.
use Prim.Native.Nat.{ℕ, ◌+◌, ◌*◌, ◌/◌, ◌%◌, ◌<◌, ◌≤◌}
use native.Mathlib.Omega.{arith}
use native.Mathlib.Decide.{dec_lt, ℕ_discrete}
use native.Mathlib.Nat.{mul_assoc, mul-one, mul-zero, add-zero, mod-lt, mul-le-mul_left}
use mathlib.Core.Path.{◌≡◌, refl, sym, ◌∙◌, ap, subst, subst₂}
use mathlib.Core.Logic.{◌⊎◌, inl, inr}
use mathlib.Core.Bool.{Bool, true, false, true≢false}
use borrow.Author.Tests.{eq-eqb, ne_eqb}
use Rattle.tree.specs.Tree.{Tree, nothing, line, node, present, is_open}
use Rattle.tree.specs.Standing.{Stands}
use Rattle.tree.specs.Shape.{Edges, LegalUnder}
use Rattle.tree.specs.Opening.{free, group, split, put, one_edge, newcomer}
use Rattle.tree.proofs.Digits.{digit_high, digits_of}
use Rattle.tree.proofs.Put.{put_same, put_other, put_each, InPut, NotInPut, put_stands, stands_put_same, stands_put_other, one_edge_stands, stands_one_edge, under_put_edge}
use Rattle.tree.proofs.Searching.{some_below_true, some_below_at}
use Rattle.tree.proofs.Proper.{nothing_open, one_edge_edges}
use Rattle.tree.proofs.Classes.{free_absent, taken_present, beyond_free}
use Rattle.tree.proofs.UnderEdge.{stands_present}
use Rattle.tree.proofs.Standing.{stands_open, open_stands, not_open_below}
use Rattle.tree.proofs.Split.{group_nothing, group_node, split_groups, split_whole, divisor_is_weight, quotient_below, split_in_class, class_in_split}

-- what a booking of line L with period d·q into class i of a node of weight w rests on
pub record Room (d q w : ℕ) (f : ℕ → Tree) (i : ℕ) : Type 0 where
  pub divisor_positive : 0 < d
  pub weight_positive : 0 < w
  pub quotient_positive : 0 < q
  pub divides_weight : d * (w / d) ≡ w
  pub class_below : i < d
  pub class_free : free d w f i ≡ true

-- The newcomer

pub newcomer_line : (L q : ℕ) → q ≡ 1 → newcomer L q ≡ line L
unfolding newcomer
newcomer_line L q h = rw (eq-eqb q 1 h)

pub newcomer_node : (L q : ℕ) → (q ≡ 1 → ⊥) → newcomer L q ≡ one_edge q (line L)
unfolding newcomer
newcomer_node L q h = rw (ne_eqb q 1 h)

pub newcomer_stands : (L q : ℕ) → 0 < q → Stands L (newcomer L q) q 0
unfolding Stands
newcomer_stands L q positive =
    elim (ℕ_discrete q 1) [
      | yes one ↦ rw (newcomer_line L q one) (refl, one, refl)
      | no more ↦ rw (newcomer_node L q more) (one_edge_stands L q positive)
    ]

pub stands_newcomer : (K L q p s : ℕ) → Stands K (newcomer L q) p s → (K ≡ L) × (p ≡ q) × (s ≡ 0)
unfolding Stands
stands_newcomer K L q p s h =
    elim (ℕ_discrete q 1) [
      | yes one ↦ (let x = rw (newcomer_line L q one) at h in (sym x.0, x.1 ∙ sym one, x.2))
      | no more ↦ stands_one_edge K L q p s (rw (newcomer_node L q more) at h)
    ]

-- The booking

-- the edges of the node, split where need be, with the line booked into class i
abbrev pub booked_edges : ℕ → ℕ → ℕ → ℕ → (ℕ → Tree) → ℕ → ℕ → Tree
booked_edges L d q w f i = put i (newcomer L q) (split d w f)

module _ (L d q w : ℕ) (f : ℕ → Tree) (i : ℕ) (room : Room d q w f i) where
  -- what stood in the node is not in the free class
  pub not_in_class : (e : ℕ) → e < w → present (f e) ≡ true → e % d ≡ i → ⊥
  not_in_class e below here class = true≢false (sym here ∙ free_absent d w f i e room.class_free below class)

  pub stands_with_line : (K p u : ℕ) → Stands K (node w f) p u → Stands K (node d (booked_edges L d q w f i)) p u
  unfolding Stands
  stands_with_line K p u h =
      let x = class_in_split K d w f room.weight_positive room.divides_weight p u room.divisor_positive h in
      stands_put_other K d i (newcomer L q) (split d w f) p u (record {
        in_node = under_put_edge x x.stands;
        other_edge = not_in_class h.edge h.edge_below (stands_present K (f h.edge) h.period h.start h.stands);
      })

  pub new_line_stands : Stands L (node d (booked_edges L d q w f i)) (d * q) i
  unfolding Stands
  new_line_stands =
      stands_put_same L d i (newcomer L q) (split d w f) (d * q) i (record {
        edge_below = room.class_below;
        period = q;
        start = 0;
        stands = newcomer_stands L q room.quotient_positive;
        period_is = refl;
        start_is = simp (mul-zero, add-zero);
      })

  -- what stands in the node afterwards stood in it, in the class of that edge, or is the new line
  pub with_line_stands : (K p u : ℕ) → Stands K (node d (booked_edges L d q w f i)) p u → Stands K (node w f) p u ⊎ ((K ≡ L) × (p ≡ d * q) × (u ≡ i))
  unfolding Stands
  with_line_stands K p u h = go (put_stands K d i (newcomer L q) (split d w f) p u h)
    where
      go : InPut K d i (newcomer L q) p u ⊎ NotInPut K d i (split d w f) p u → Stands K (node w f) p u ⊎ ((K ≡ L) × (p ≡ d * q) × (u ≡ i))
      go (inl x) =
          let new = stands_newcomer K L q x.period x.start x.stands in
          inr (
            new.0,
            x.period_is ∙ ap (λ (n : ℕ). d * n) new.1,
            x.start_is ∙ ap (λ (n : ℕ). i + d * n) new.2 ∙ simp (mul-zero, add-zero),
          )
      go (inr x) =
          let y = x.in_node in
          let z = split_in_class K d w f room.weight_positive room.divides_weight y.edge y.period y.start y.edge_below y.stands in
          inl (subst₂ (λ (a b : ℕ). Stands K (node w f) a b) (sym y.period_is) (sym y.start_is) z.in_node)

-- The booking is legal

-- a class is free although an edge is present: there is more than one class
pub divisor_at_least_2 : (d q w : ℕ) (f : ℕ → Tree) (i : ℕ) → Room d q w f i → Edges w f → 2 ≤ d
divisor_at_least_2 d q w f i room edges =
    let x = some_below_true w _ edges.not_empty in
    elim (dec_lt 1 d) [
      | yes two ↦ two
      | no one ↦
          let below = room.class_below in
          let small = mod-lt x.0 room.divisor_positive in
          absurd (true≢false (sym x.2 ∙ free_absent d w f i x.0 room.class_free x.1 (omega arith)))
    ]

newcomer_present : (L q : ℕ) → 0 < q → present (newcomer L q) ≡ true
newcomer_present L q positive = stands_present L (newcomer L q) q 0 (newcomer_stands L q positive)

newcomer_legal : (L m q : ℕ) → L ≤ 63 → 0 < q → m * q ≤ 4095 → LegalUnder m (newcomer L q)
unfolding LegalUnder one_edge present
newcomer_legal L m q number positive period =
    elim (ℕ_discrete q 1) [
      | yes one ↦
          rw (newcomer_line L q one)
          (number, subst (λ (n : ℕ). n ≤ 4095) (ap (λ (n : ℕ). m * n) one ∙ mul-one m) period)
      | no more ↦
          rw (newcomer_node L q more) (
            omega arith,
            one_edge_edges q (line L) positive refl,
            put_each (LegalUnder (m * q)) 0 (line L) (λ e. nothing) (number, period) (λ e other. tt),
          )
    ]

module _ (d w : ℕ) (f : ℕ → Tree) (divides : d * (w / d) ≡ w) where
  group_weight_at_least_2 : d < w → 2 ≤ w / d
  group_weight_at_least_2 small =
      elim (dec_lt 1 (w / d)) [
        | yes two ↦ two
        | no one ↦ let most = mul-le-mul_left {m = w / d} {n = 1} d (omega arith) in let d1 = mul-one d in absurd (omega arith)
      ]

  group_edges : (k : ℕ) → 0 < d → free d w f k ≡ false → Edges w f → Edges (w / d) (λ j. f (k + d * j))
  group_edges k positive taken edges =
      let x = taken_present d w f k taken in
      let e = x.0 in
      let again : k + d * (e / d) ≡ e = ap (λ (n : ℕ). n + d * (e / d)) (sym x.2) ∙ digits_of e d in
      let k_below : k < d = subst (λ (n : ℕ). n < d) x.2 (mod-lt e positive) in
      record {
        below_weight = λ j h. edges.below_weight (k + d * j) (let least = mul-le-mul_left {m = w / d} {n = j} d h in omega arith);
        not_empty = some_below_at (w / d) _ (e / d) (quotient_below d w e positive divides x.1) (ap (λ (n : ℕ). present (f n)) again ∙ x.3);
        line_once =
            λ L j h a b.
            sym (digit_high d k j k_below) ∙ ap (λ (n : ℕ). n / d) (edges.line_once L (k + d * j) (k + d * h) a b) ∙ digit_high d k h k_below;
      }

  group_legal : (m k : ℕ) → 0 < d → d < w → LegalUnder m (node w f) → LegalUnder (m * d) (group d w f k)
  unfolding LegalUnder
  group_legal m k positive small legal = go (free d w f k) refl
    where
      go : (b : Bool) → free d w f k ≡ b → LegalUnder (m * d) (group d w f k)
      go true e = rw (group_nothing d w f k e) tt
      go false e =
          rw (group_node d w f k e) (
            group_weight_at_least_2 small,
            group_edges k positive e legal.1,
            λ j. subst (λ (n : ℕ). LegalUnder n (f (k + d * j))) (ap (λ (n : ℕ). m * n) (sym divides) ∙ sym (mul_assoc m d (w / d))) (legal.2 (k + d * j)),
          )

  pub split_legal : (m k : ℕ) → 0 < d → LegalUnder m (node w f) → LegalUnder (m * d) (split d w f k)
  unfolding LegalUnder
  split_legal m k positive legal =
      elim (dec_lt d w) [
        | yes small ↦ rw (split_groups d w f small) (group_legal m k positive small legal)
        | no not_small ↦
            let two = legal.0 in
            let whole = divisor_is_weight d w (omega arith) divides not_small in
            rw (split_whole d w f (omega arith), whole) (legal.2 k)
      ]

  -- nothing stands at or beyond the split node's weight
  pub split_beyond : (k : ℕ) → 0 < d → Edges w f → d ≤ k → split d w f k ≡ nothing
  split_beyond k positive edges beyond =
      elim (dec_lt d w) [
        | yes small ↦ rw (split_groups d w f small) (group_nothing d w f k (beyond_free d w f k positive beyond))
        | no not_small ↦ rw (split_whole d w f (omega arith)) (edges.below_weight k (omega arith))
      ]

module _ (L d q w : ℕ) (f : ℕ → Tree) (i : ℕ) (room : Room d q w f i) where
  -- a line under edge a is the new one, or was under an edge of class a
  under_from : (K a : ℕ) → a < d → is_open K (booked_edges L d q w f i a) ≡ true →
      ((K ≡ L) × (a ≡ i)) ⊎ ((e : ℕ) × (e < w) × (is_open K (f e) ≡ true) × (e % d ≡ a))
  under_from K a below open_there =
      elim (ℕ_discrete a i) [
        | yes same ↦
            let new : is_open K (newcomer L q) ≡ true = rw (put_same i a (newcomer L q) (split d w f) same) at open_there in
            inl ((stands_newcomer K L q _ _ (open_stands K (newcomer L q) new)).0, same)
        | no other ↦
            let old : is_open K (split d w f a) ≡ true = rw (put_other i a (newcomer L q) (split d w f) other) at open_there in
            let x = split_in_class K d w f room.weight_positive room.divides_weight a _ _ below (open_stands K (split d w f a) old) in
            let y = x.in_node in
            inr (y.edge, y.edge_below, stands_open K (f y.edge) y.period y.start y.stands, x.class)
      ]

  module _ (new : is_open L (node w f) ≡ false) (edges : Edges w f) where
    booked_line_once : (K a b : ℕ) → a < d → b < d → is_open K (booked_edges L d q w f i a) ≡ true → is_open K (booked_edges L d q w f i b) ≡ true → a ≡ b
    booked_line_once K a b a_below b_below open_a open_b = go (under_from K a a_below open_a) (under_from K b b_below open_b)
      where
        go : ((K ≡ L) × (a ≡ i)) ⊎ ((e : ℕ) × (e < w) × (is_open K (f e) ≡ true) × (e % d ≡ a)) →
            ((K ≡ L) × (b ≡ i)) ⊎ ((e : ℕ) × (e < w) × (is_open K (f e) ≡ true) × (e % d ≡ b)) → a ≡ b
        go (inl x) (inl y) = x.1 ∙ sym y.1
        go (inl x) (inr y) = absurd (not_open_below L w f edges new y.0 (rw x.0 at y.2))
        go (inr x) (inl y) = absurd (not_open_below L w f edges new x.0 (rw y.0 at x.2))
        go (inr x) (inr y) =
            sym x.3 ∙ ap (λ (e : ℕ). e % d) (edges.line_once K x.0 y.0 x.2 y.2) ∙ y.3

    beyond_nothing : (e : ℕ) → d ≤ e → booked_edges L d q w f i e ≡ nothing
    beyond_nothing e beyond =
        let below = room.class_below in
        put_other i e (newcomer L q) (split d w f) (λ same. omega arith)
        ∙ split_beyond d w f room.divides_weight e room.divisor_positive edges beyond

    open_below : (K e : ℕ) → is_open K (booked_edges L d q w f i e) ≡ true → e < d
    open_below K e open_there =
        elim (dec_lt e d) [ yes below ↦ below | no beyond ↦ absurd (nothing_open K (booked_edges L d q w f i e) (beyond_nothing e (omega arith)) open_there) ]

    booked_has_edges : Edges d (booked_edges L d q w f i)
    booked_has_edges =
        record {
          below_weight = beyond_nothing;
          not_empty =
              some_below_at d _ i room.class_below
              (ap present (put_same i i (newcomer L q) (split d w f) refl) ∙ newcomer_present L q room.quotient_positive);
          line_once = λ K a b open_a open_b. booked_line_once K a b (open_below K a open_a) (open_below K b open_b) open_a open_b;
        }

  -- the new line's period, from the root on, is m·d·q
  pub with_line_legal : (m : ℕ) → L ≤ 63 → m * (d * q) ≤ 4095 → is_open L (node w f) ≡ false → LegalUnder m (node w f) → LegalUnder m (node d (booked_edges L d q w f i))
  unfolding LegalUnder
  with_line_legal m number period new legal = (
    divisor_at_least_2 d q w f i room legal.1,
    booked_has_edges new legal.1,
    put_each (LegalUnder (m * d)) i (newcomer L q) (split d w f)
        (newcomer_legal L (m * d) q number room.quotient_positive (subst (λ (n : ℕ). n ≤ 4095) (sym (mul_assoc m d q)) period))
        (λ e other. split_legal d w f room.divides_weight m e room.divisor_positive legal),
  )
