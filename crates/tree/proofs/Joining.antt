-- A node joined with those below it (`weight_below`, `join`, specs/Closing.antt): every line keeps its period and start, and the tree stays legal.
-- Assumes nothing.
use Rattle.std.specs.Prelude.{Option, None, Some}
use Prim.Native.Nat.{ℕ, ◌+◌, ◌*◌, ◌/◌, ◌%◌, ◌<◌, ◌≤◌}
use native.Mathlib.Omega.{arith}
use native.Mathlib.Nat.{mul_assoc, mul-add, add_assoc, mod-lt, mul_comm, div-lt_iff_lt-mul, le-mul_of_pos_right}
use native.Mathlib.Decide.{dec_lt}
use mathlib.Core.Path.{◌≡◌, refl, sym, ◌∙◌, ap, ap₂, subst}
use mathlib.Core.Logic.{◌⊎◌, inl, inr}
use mathlib.Core.Bool.{Bool, true, false, false≢true}
use borrow.Author.Tests.{eqb-true}
use Rattle.std.proofs.lemmas.Option.{none-some, same_Some}
use Rattle.tree.specs.Search.{passing, first, some_below}
use Rattle.tree.specs.Tree.{Tree, nothing, line, node, present, is_open, weight_of}
use Rattle.tree.specs.Standing.{Stands}
use Rattle.tree.specs.Shape.{Edges, LegalUnder}
use Rattle.tree.specs.Closing.{of_weight, weight_below, under_edge, joined_with, join}
use Rattle.tree.proofs.Digits.{digit_low, digit_high, digits_below, digits_of}
use Rattle.tree.proofs.Searching.{first_some, first_none, all_below_at, all_below_each, passing_some, passing_true, some_below_at, some_below_true}
use Rattle.tree.proofs.UnderEdge.{stands_under}
use Rattle.tree.proofs.Standing.{not_open_below}
use Rattle.tree.proofs.Proper.{nothing_open}

-- The weight below a node

-- All edges of a node lead to nodes of weight v, and one does.
pub record OneWeight (w v : ℕ) (f : ℕ → Tree) : Type 0 where
  pub edge : ℕ
  pub edge_below : edge < w
  pub leads_to : weight_of (f edge) ≡ Some v
  pub all : (e : ℕ) → e < w → of_weight v (f e) ≡ true

pub of_weight_either : (v : ℕ) (t : Tree) → of_weight v t ≡ true → (t ≡ nothing) ⊎ ((g : ℕ → Tree) × (t ≡ node v g))
unfolding of_weight
of_weight_either v nothing h = inl refl
of_weight_either v (line n) h = absurd (false≢true h)
of_weight_either v (node w f) h = inr (f, ap (λ (n : ℕ). node n f) (eqb-true w v h))

pub weight_below_some : (w v : ℕ) (f : ℕ → Tree) → weight_below w f ≡ Some v → OneWeight w v f
unfolding weight_below
weight_below_some w v f h =
    let passed = passing_some _ _ v h in
    let x = first_some w _ v passed.0 in
    record { edge = x.index; edge_below = x.index_below; leads_to = x.offers; all = all_below_at w _ passed.1 }

-- a node's weight is the v that `of_weight` asks
weight_is : (v n : ℕ) (t : Tree) → of_weight v t ≡ true → weight_of t ≡ Some n → n ≡ v
unfolding of_weight weight_of
weight_is v n nothing h e = absurd (none-some n e)
weight_is v n (line k) h e = absurd (none-some n e)
weight_is v n (node w f) h e = sym (same_Some w n e) ∙ eqb-true w v h

pub one_weight_below : (w v : ℕ) (f : ℕ → Tree) → OneWeight w v f → weight_below w f ≡ Some v
unfolding weight_below
one_weight_below w v f h = go (first w (λ e. weight_of (f e))) refl
  where
    go : (o : Option ℕ) → first w (λ e. weight_of (f e)) ≡ o → weight_below w f ≡ Some v
    go None e = absurd (none-some v (sym (first_none w _ e h.edge h.edge_below) ∙ h.leads_to))
    go (Some n) e =
        let x = first_some w _ n e in
        let same = weight_is v n (f x.index) (h.all x.index x.index_below) x.offers in
        ap (passing _) (e ∙ ap Some same) ∙ passing_true _ v (all_below_each w _ h.all)

-- equal nodes have equal edges
same_edges : (w : ℕ) (f g : ℕ → Tree) → node w f ≡ node w g → (e : ℕ) → f e ≡ g e
unfolding under_edge
same_edges w f g same e = ap (under_edge e) same

-- a line under an edge of a node is open in it
open_in_node : (L w : ℕ) (f : ℕ → Tree) → Edges w f → (e : ℕ) → is_open L (f e) ≡ true → is_open L (node w f) ≡ true
open_in_node L w f edges e h = go (is_open L (node w f)) refl
  where
    go : (b : Bool) → is_open L (node w f) ≡ b → is_open L (node w f) ≡ true
    go true there = there
    go false absent = absurd (not_open_below L w f edges absent e h)

-- A node and those below it joined

module _ (w v : ℕ) (f : ℕ → Tree) (one : OneWeight w v f) where
  weight_positive : 0 < w
  weight_positive = let below = one.edge_below in omega arith

  pub high_below : (e : ℕ) → e < w * v → e / w < v
  high_below e below = (div-lt_iff_lt-mul weight_positive).1 (subst (λ (n : ℕ). e < n) (mul_comm w v) below)

  high_beyond : (e : ℕ) → w * v ≤ e → v ≤ e / w
  high_beyond e beyond = elim (dec_lt (e / w) v) [
    | yes below ↦ absurd (omega (arith, (div-lt_iff_lt-mul weight_positive).0 below, mul_comm w v))
    | no past ↦ omega arith
  ]

  -- what is under edge k + w·j afterwards
  pub joined_edge : (k j : ℕ) → k < w → (g : ℕ → Tree) → f k ≡ node v g → under_edge ((k + w * j) / w) (f ((k + w * j) % w)) ≡ g j
  unfolding under_edge
  joined_edge k j below g h = rw (digit_low w k j below, digit_high w k j below, h)

  period_through : (p : ℕ) → w * (v * p) ≡ w * v * p
  period_through p = sym (mul_assoc w v p)

  start_through : (k j s : ℕ) → k + w * (j + v * s) ≡ k + w * j + w * v * s
  start_through k j s = rw (mul-add w j (v * s), period_through s) (sym (add_assoc k (w * j) (w * v * s)))

  pub stands_joined : (M q u : ℕ) → Stands M (node w f) q u → Stands M (joined_with v w f) q u
  unfolding joined_with Stands
  stands_joined M q u h = elim (of_weight_either v (f h.edge) (one.all h.edge h.edge_below)) [
    | inl gone ↦ absurd (rw gone at h.stands)
    | inr child ↦
        let x : Stands M (node v child.0) h.period h.start = rw child.1 at h.stands in
        record {
          edge = h.edge + w * x.edge;
          period = x.period;
          start = x.start;
          edge_below = digits_below w v h.edge x.edge h.edge_below x.edge_below;
          stands = rw (joined_edge h.edge x.edge h.edge_below child.0 child.1) x.stands;
          period_is = h.period_is ∙ ap (λ (n : ℕ). w * n) x.period_is ∙ period_through x.period;
          start_is = h.start_is ∙ ap (λ (n : ℕ). h.edge + w * n) x.start_is ∙ start_through h.edge x.edge x.start;
        }
  ]

  -- what stands under edge e of the joined node stood under the edge that e leaves modulo w
  pub joined_stands : (M q u : ℕ) → Stands M (joined_with v w f) q u → Stands M (node w f) q u
  unfolding joined_with Stands
  joined_stands M q u h = elim (of_weight_either v (f k) (one.all k (mod-lt h.edge weight_positive))) [
    | inl gone ↦ absurd (unfold under_edge in (rw gone at h.stands))
    | inr child ↦
        let s : Stands M (child.0 j) h.period h.start = unfold under_edge in (rw child.1 at h.stands) in
        record {
          edge = k;
          period = v * h.period;
          start = j + v * h.start;
          edge_below = mod-lt h.edge weight_positive;
          stands = rw child.1 (stands_under M v child.0 j h.period h.start (high_below h.edge h.edge_below) s);
          period_is = h.period_is ∙ sym (period_through h.period);
          start_is = h.start_is ∙ ap (λ (n : ℕ). n + w * v * h.start) (sym (digits_of h.edge w)) ∙ sym (start_through k j h.start);
        }
  ]
    where
      k : ℕ
      k = h.edge % w

      j : ℕ
      j = h.edge / w

  -- The joined node is legal where the node was

  abbrev edges_joined : ℕ → Tree
  edges_joined e = under_edge (e / w) (f (e % w))

  each_joined : (P : Tree → Type 0) (e : ℕ) → P nothing → ((g : ℕ → Tree) → f (e % w) ≡ node v g → P (g (e / w))) → P (edges_joined e)
  unfolding under_edge
  each_joined P e gone below = elim (of_weight_either v (f (e % w)) (one.all (e % w) (mod-lt e weight_positive))) [
    | inl h ↦ rw h gone
    | inr child ↦ rw child.1 (below child.0 child.1)
  ]

  -- there is a node to join with
  pub child : (g : ℕ → Tree) × (f one.edge ≡ node v g)
  unfolding weight_of
  child = elim (of_weight_either v (f one.edge) (one.all one.edge one.edge_below)) [
    | inl gone ↦ absurd (none-some v (rw gone at one.leads_to))
    | inr x ↦ x
  ]

  module _ (m : ℕ) (legal : LegalUnder m (node w f)) where
    pub child_legal : (e : ℕ) (g : ℕ → Tree) → f e ≡ node v g → LegalUnder (m * w) (node v g)
    unfolding LegalUnder
    child_legal e g h = rw h at (legal.2 e)

    -- a line under an edge afterwards stood under that edge of a child
    open_joined : (L e : ℕ) → is_open L (edges_joined e) ≡ true → (g : ℕ → Tree) × (f (e % w) ≡ node v g) × (is_open L (g (e / w)) ≡ true)
    open_joined L e = each_joined (λ t. is_open L t ≡ true → (g : ℕ → Tree) × (f (e % w) ≡ node v g) × (is_open L (g (e / w)) ≡ true)) e
        (λ h. absurd (nothing_open L nothing refl h)) (λ g is h. (g, is, h))

    open_in_child : (L e : ℕ) → is_open L (edges_joined e) ≡ true → is_open L (f (e % w)) ≡ true
    unfolding LegalUnder
    open_in_child L e h =
        let x = open_joined L e h in
        ap (is_open L) x.1 ∙ open_in_node L v x.0 (child_legal (e % w) x.0 x.1).1 (e / w) x.2

    joined_line_once : (L e k : ℕ) → is_open L (edges_joined e) ≡ true → is_open L (edges_joined k) ≡ true → e ≡ k
    unfolding LegalUnder
    joined_line_once L e k a b =
        let low = legal.1.line_once L (e % w) (k % w) (open_in_child L e a) (open_in_child L k b) in
        let x = open_joined L e a in
        let y = open_joined L k b in
        let one_child : node v y.0 ≡ node v x.0 = sym y.1 ∙ ap f (sym low) ∙ x.1 in
        let there : is_open L (x.0 (k / w)) ≡ true = ap (is_open L) (sym (same_edges v y.0 x.0 one_child (k / w))) ∙ y.2 in
        let high = (child_legal (e % w) x.0 x.1).1.line_once L (e / w) (k / w) x.2 there in
        sym (digits_of e w) ∙ ap₂ (λ (a b : ℕ). a + w * b) low high ∙ digits_of k w

    some_edge : some_below (w * v) (λ e. present (edges_joined e)) ≡ true
    unfolding LegalUnder
    some_edge =
        let x = some_below_true v _ (child_legal one.edge child.0 child.1).1.not_empty in
        some_below_at (w * v) _ (one.edge + w * x.0) (digits_below w v one.edge x.0 one.edge_below x.1)
        (ap present (joined_edge one.edge x.0 one.edge_below child.0 child.1) ∙ x.2)

    joined_has_edges : Edges (w * v) edges_joined
    unfolding LegalUnder
    joined_has_edges = record {
      below_weight = λ e beyond. each_joined (λ t. t ≡ nothing) e refl λ g is. (child_legal (e % w) g is).1.below_weight (e / w) (high_beyond e beyond);
      not_empty = some_edge;
      line_once = joined_line_once;
    }

    two_at_least : 2 ≤ w * v
    unfolding LegalUnder
    two_at_least =
        let two = (child_legal one.edge child.0 child.1).0 in
        let more : w ≤ w * v = le-mul_of_pos_right w (omega arith) in
        omega (arith, legal.0)

    pub joined_legal : LegalUnder m (joined_with v w f)
    unfolding LegalUnder joined_with
    joined_legal = (two_at_least, joined_has_edges, λ e. each_joined (LegalUnder (m * (w * v))) e tt λ g is. rw (← mul_assoc) ((child_legal (e % w) g is).2 (e / w)))

-- A join, whether or not the node can be joined

pub join_either : (P : Tree → Type 0) (t : Tree) → P t → ((w v : ℕ) (f : ℕ → Tree) → t ≡ node w f → OneWeight w v f → P (joined_with v w f)) → P (join t)
unfolding join
join_either P nothing same joined = same
join_either P (line n) same joined = same
join_either P (node w f) same joined = go (weight_below w f) refl
  where
    go : (o : Option ℕ) → weight_below w f ≡ o → P (elim o [ None ↦ node w f | Some v ↦ joined_with v w f ])
    go None e = same
    go (Some v) e = joined w v f refl (weight_below_some w v f e)

pub join_none : (w : ℕ) (f : ℕ → Tree) → weight_below w f ≡ None → join (node w f) ≡ node w f
unfolding join
join_none w f h = rw (h, join)

pub join_some : (w v : ℕ) (f : ℕ → Tree) → weight_below w f ≡ Some v → join (node w f) ≡ joined_with v w f
unfolding join
join_some w v f h = rw (h, join)
