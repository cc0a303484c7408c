-- A split moves no start: a node split by a divisor d of its weight w holds the same lines, with the same periods and starts.
-- Of d only that it divides w is used.
-- Assumes nothing.
use Prim.Native.Nat.{ℕ, ◌+◌, ◌*◌, ◌/◌, ◌%◌, ◌<◌, ◌≤◌}
use native.Mathlib.Omega.{arith}
use native.Mathlib.Decide.{dec_lt}
use native.Mathlib.Nat.{mul_assoc, mul-add, add_assoc, mod-lt, mod-eq_of_lt, mul_comm, div-lt_iff_lt-mul, le_antisymm, le-mul_of_pos_right, mul-zero, eq-zero-or-pos}
use mathlib.Core.Path.{◌≡◌, refl, sym, ◌∙◌, ap, ap₂, subst, subst₂}
use mathlib.Core.Logic.{◌⊎◌, inl, inr, ◌↔◌}
use mathlib.Core.Bool.{Bool, true, false}
use borrow.Author.Tests.{lt-ltb, le-ltb}
use Rattle.tree.specs.Tree.{Tree, nothing, node}
use Rattle.tree.specs.Standing.{UnderEdge, Stands}
use Rattle.tree.specs.Opening.{free, group, split}
use Rattle.tree.proofs.Digits.{digit_low, digits_below, digits_of}
use Rattle.tree.proofs.Put.{InPut, under_put_edge}
use Rattle.tree.proofs.Classes.{present_taken}
use Rattle.tree.proofs.UnderEdge.{stands_present}

module _ (d w : ℕ) (f : ℕ → Tree) where
  pub group_nothing : (k : ℕ) → free d w f k ≡ true → group d w f k ≡ nothing
  unfolding group
  group_nothing k h = rw h

  pub group_node : (k : ℕ) → free d w f k ≡ false → group d w f k ≡ node (w / d) (λ j. f (k + d * j))
  unfolding group
  group_node k h = rw h

  pub split_groups : d < w → split d w f ≡ group d w f
  unfolding split
  split_groups h = rw (lt-ltb d w h)

  pub split_whole : w ≤ d → split d w f ≡ f
  unfolding split
  split_whole h = rw (le-ltb d w h)

-- a divisor is at most the weight
divisor_at_most : (d w : ℕ) → 0 < w → d * (w / d) ≡ w → d ≤ w
divisor_at_most d w positive divides = go (eq-zero-or-pos (w / d))
  where
    go : (w / d ≡ 0) ⊎ (0 < w / d) → d ≤ w
    go (inl z) = let w0 : w ≡ 0 = sym divides ∙ ap (λ (n : ℕ). d * n) z ∙ mul-zero d in absurd (omega arith)
    go (inr h) = subst (λ (n : ℕ). d ≤ n) divides (le-mul_of_pos_right d h)

-- so one that is not below the weight is the weight
pub divisor_is_weight : (d w : ℕ) → 0 < w → d * (w / d) ≡ w → (d < w → ⊥) → d ≡ w
divisor_is_weight d w positive divides not_small = le_antisymm (divisor_at_most d w positive divides) (omega arith)

-- an edge below the weight goes to an edge below the groups' weight
pub quotient_below : (d w e : ℕ) → 0 < d → d * (w / d) ≡ w → e < w → e / d < w / d
quotient_below d w e positive divides below =
    (div-lt_iff_lt-mul positive).1 (subst (λ (n : ℕ). e < n) (sym divides ∙ mul_comm d (w / d)) below)

-- line K stands in the node of weight w, under an edge of class k
pub record InClass (K d w : ℕ) (f : ℕ → Tree) (k q u : ℕ) : Type 0 where
  pub in_node : UnderEdge w q u (λ e p s. Stands K (f e) p s)
  pub class : in_node.edge % d ≡ k

module _ (d w : ℕ) (divides : d * (w / d) ≡ w) where
  period_through : (p : ℕ) → d * (w / d * p) ≡ w * p
  period_through p = sym (mul_assoc d (w / d) p) ∙ ap (λ (n : ℕ). n * p) divides

  start_through : (k j s : ℕ) → k + d * (j + w / d * s) ≡ k + d * j + w * s
  start_through k j s = rw (mul-add d j (w / d * s), period_through s) (sym (add_assoc k (d * j) (w * s)))

module _ (K d w : ℕ) (f : ℕ → Tree) (weight_positive : 0 < w) (divides : d * (w / d) ≡ w) where
  -- what stands under edge k of the split node stood in the node, under an edge of class k
  group_in_class : (k p s : ℕ) → k < d → Stands K (node (w / d) (λ j. f (k + d * j))) p s → InClass K d w f k (d * p) (k + d * s)
  unfolding Stands
  group_in_class k p s k_below h =
      record {
        in_node =
            record {
              edge = k + d * h.edge;
              period = h.period;
              start = h.start;
              edge_below = subst (λ (n : ℕ). k + d * h.edge < n) divides (digits_below d (w / d) k h.edge k_below h.edge_below);
              stands = h.stands;
              period_is = ap (λ (n : ℕ). d * n) h.period_is ∙ period_through d w divides h.period;
              start_is = ap (λ (n : ℕ). k + d * n) h.start_is ∙ start_through d w divides k h.edge h.start;
            };
        class = digit_low d k h.edge k_below;
      }

  groups_in_class : (k p s : ℕ) → k < d → Stands K (group d w f k) p s → InClass K d w f k (d * p) (k + d * s)
  unfolding Stands
  groups_in_class k p s k_below h = go (free d w f k) refl
    where
      go : (b : Bool) → free d w f k ≡ b → InClass K d w f k (d * p) (k + d * s)
      go true e = absurd (rw (group_nothing d w f k e) at h)
      go false e = group_in_class k p s k_below (rw (group_node d w f k e) at h)

  pub split_in_class : (k p s : ℕ) → k < d → Stands K (split d w f k) p s → InClass K d w f k (d * p) (k + d * s)
  unfolding Stands
  split_in_class k p s k_below h =
      elim (dec_lt d w) [
        | yes small ↦ groups_in_class k p s k_below (rw (split_groups d w f small) at h)
        | no not_small ↦
            let whole = divisor_is_weight d w weight_positive divides not_small in
            record {
              in_node =
                  record {
                    edge = k;
                    period = p;
                    start = s;
                    edge_below = omega arith;
                    stands = rw (split_whole d w f (omega arith)) at h;
                    period_is = ap (λ (n : ℕ). n * p) whole;
                    start_is = ap (λ (n : ℕ). k + n * s) whole;
                  };
              class = mod-eq_of_lt k_below;
            }
      ]

  -- what stood in the node stands under the edge of its class
  module _ (q u : ℕ) (positive : 0 < d) where
    class_in_groups : (h : UnderEdge w q u (λ e p s. Stands K (f e) p s)) → InPut K d (h.edge % d) (group d w f (h.edge % d)) q u
    unfolding Stands
    class_in_groups h =
        let e = h.edge in
        let here = stands_present K (f e) h.period h.start h.stands in
        let again : e % d + d * (e / d) ≡ e = digits_of e d in
        record {
          edge_below = mod-lt e positive;
          period = w / d * h.period;
          start = e / d + w / d * h.start;
          stands =
              subst (λ (t : Tree). Stands K t (w / d * h.period) (e / d + w / d * h.start))
              (sym (group_node d w f (e % d) (present_taken d w f e h.edge_below here)))
              (record {
                edge = e / d;
                period = h.period;
                start = h.start;
                edge_below = quotient_below d w e positive divides h.edge_below;
                stands = subst (λ (n : ℕ). Stands K (f n) h.period h.start) (sym again) h.stands;
                period_is = refl;
                start_is = refl;
              });
          period_is = h.period_is ∙ sym (period_through d w divides h.period);
          start_is =
              h.start_is ∙ ap (λ (n : ℕ). n + w * h.start) (sym again) ∙ sym (start_through d w divides (e % d) (e / d) h.start);
        }

    pub class_in_split : (h : UnderEdge w q u (λ e p s. Stands K (f e) p s)) → InPut K d (h.edge % d) (split d w f (h.edge % d)) q u
    unfolding Stands
    class_in_split h =
        let e = h.edge in
        elim (dec_lt d w) [
          | yes small ↦ rw (split_groups d w f small) (class_in_groups h)
          | no not_small ↦
              let whole = divisor_is_weight d w weight_positive divides not_small in
              let same : e % d ≡ e = mod-eq_of_lt (subst (λ (n : ℕ). e < n) (sym whole) h.edge_below) in
              record {
                edge_below = mod-lt e positive;
                period = h.period;
                start = h.start;
                stands = rw (split_whole d w f (omega arith), same) h.stands;
                period_is = h.period_is ∙ ap (λ (n : ℕ). n * h.period) (sym whole);
                start_is = h.start_is ∙ ap₂ (λ (n k : ℕ). k + n * h.start) (sym whole) (sym same);
              }
        ]

    -- a split moves no start, and changes no period
    pub split_keeps_starts : Stands K (node d (split d w f)) q u ↔ Stands K (node w f) q u
    unfolding Stands
    split_keeps_starts = (unsplit, resplit)
      where
        unsplit : Stands K (node d (split d w f)) q u → Stands K (node w f) q u
        unsplit h =
            let x = split_in_class h.edge h.period h.start h.edge_below h.stands in
            subst₂ (λ (a b : ℕ). Stands K (node w f) a b) (sym h.period_is) (sym h.start_is) x.in_node

        resplit : Stands K (node w f) q u → Stands K (node d (split d w f)) q u
        resplit h =
            let x = class_in_split h in
            under_put_edge x x.stands
