-- What stands in a node after something was put under one of its edges (`put` of specs/Opening.antt).
-- Assumes nothing.
use Prim.Native.Nat.{ℕ, ◌+◌, ◌*◌, ◌<◌}
use native.Mathlib.Decide.{ℕ_discrete}
use native.Mathlib.Nat.{mul-one, mul-zero}
use mathlib.Core.Path.{◌≡◌, refl, sym, ◌∙◌, ap, subst, fun_ext}
use mathlib.Core.Logic.{◌⊎◌, inl, inr}
use borrow.Author.Tests.{eq-eqb, ne_eqb}
use Rattle.tree.specs.Tree.{Tree, nothing, line, node, present}
use Rattle.tree.specs.Standing.{UnderEdge, Stands}
use Rattle.tree.specs.Opening.{put, one_edge}
use Rattle.tree.specs.Shape.{Alone}
use Rattle.tree.proofs.UnderEdge.{same_edge}

pub put_same : (i e : ℕ) (t : Tree) (f : ℕ → Tree) → e ≡ i → put i t f e ≡ t
unfolding put
put_same i e t f h = rw (eq-eqb e i h)

pub put_other : (i e : ℕ) (t : Tree) (f : ℕ → Tree) → (e ≡ i → ⊥) → put i t f e ≡ f e
unfolding put
put_other i e t f h = rw (ne_eqb e i h)

-- what holds of t, and of what stands under every other edge, holds under each edge
pub put_each : (P : Tree → Type 0) (i : ℕ) (t : Tree) (f : ℕ → Tree) → P t → ((e : ℕ) → (e ≡ i → ⊥) → P (f e)) → (e : ℕ) → P (put i t f e)
put_each P i t f here others e =
    elim (ℕ_discrete e i) [
      | yes same ↦ subst P (sym (put_same i e t f same)) here
      | no other ↦ subst P (sym (put_other i e t f other)) (others e other)
    ]

-- what was put under the edge before is gone
pub put_twice : (i : ℕ) (t u : Tree) (f : ℕ → Tree) → put i t (put i u f) ≡ put i t f
put_twice i t u f = fun_ext λ e.
    elim (ℕ_discrete e i) [
      | yes same ↦ put_same i e t (put i u f) same ∙ sym (put_same i e t f same)
      | no other ↦ put_other i e t (put i u f) other ∙ put_other i e u f other ∙ sym (put_other i e t f other)
    ]

-- and what is there already changes nothing
pub put_itself : (i : ℕ) (f : ℕ → Tree) → put i (f i) f ≡ f
put_itself i f = fun_ext λ e.
    elim (ℕ_discrete e i) [
      | yes same ↦ put_same i e (f i) f same ∙ ap f (sym same)
      | no other ↦ put_other i e (f i) f other
    ]

-- the same edges are present where t is present or not like what stood there
pub put_present : (i : ℕ) (t : Tree) (f : ℕ → Tree) → present t ≡ present (f i) → (e : ℕ) → present (put i t f e) ≡ present (f e)
put_present i t f like e =
    elim (ℕ_discrete e i) [
      | yes same ↦ rw (put_same i e t f same, same) like
      | no other ↦ ap present (put_other i e t f other)
    ]

-- line K stands in t, which was put under edge i of a node of weight w
pub record InPut (K w i : ℕ) (t : Tree) (q u : ℕ) : Type 0 where
  pub edge_below : i < w
  pub period : ℕ
  pub start : ℕ
  pub stands : Stands K t period start
  pub period_is : q ≡ w * period
  pub start_is : u ≡ i + w * start

-- something under that edge, with the same period and start
abbrev pub under_put_edge : {K w i : ℕ} {t : Tree} {q u : ℕ} {S : ℕ → ℕ → ℕ → Type 0} (x : InPut K w i t q u) → S i x.period x.start → UnderEdge w q u S
under_put_edge {i = i} x h =
    record {
      edge = i;
      period = x.period;
      start = x.start;
      edge_below = x.edge_below;
      stands = h;
      period_is = x.period_is;
      start_is = x.start_is;
    }

-- line K stands in the node, under another edge than i
pub record NotInPut (K w i : ℕ) (f : ℕ → Tree) (q u : ℕ) : Type 0 where
  pub in_node : UnderEdge w q u (λ e p s. Stands K (f e) p s)
  pub other_edge : in_node.edge ≡ i → ⊥

module _ (K w i : ℕ) (t : Tree) (f : ℕ → Tree) (q u : ℕ) where
  pub put_stands : Stands K (node w (put i t f)) q u → InPut K w i t q u ⊎ NotInPut K w i f q u
  unfolding Stands
  put_stands h =
      elim (ℕ_discrete h.edge i) [
        | yes same ↦ inl (record {
          edge_below = subst (λ (e : ℕ). e < w) same h.edge_below;
          period = h.period;
          start = h.start;
          stands = rw (put_same i h.edge t f same) at h.stands;
          period_is = h.period_is;
          start_is = h.start_is ∙ ap (λ (e : ℕ). e + w * h.start) same;
        })
        | no other ↦ inr (record {
          in_node = same_edge h (rw (put_other i h.edge t f other) at h.stands);
          other_edge = other;
        })
      ]

  pub stands_put_same : InPut K w i t q u → Stands K (node w (put i t f)) q u
  unfolding Stands
  stands_put_same h = under_put_edge h (rw (put_same i i t f refl) h.stands)

  pub stands_put_other : NotInPut K w i f q u → Stands K (node w (put i t f)) q u
  unfolding Stands
  stands_put_other h =
      let x = h.in_node in
      same_edge x (rw (put_other i x.edge t f h.other_edge) x.stands)

  -- where t holds what stood under edge i, the node holds what stood in it
  pub stands_put_keeps : ((p s : ℕ) → Stands K (f i) p s → Stands K t p s) → Stands K (node w f) q u → Stands K (node w (put i t f)) q u
  unfolding Stands
  stands_put_keeps keeps h =
      same_edge h
      (elim (ℕ_discrete h.edge i) [
        | yes same ↦ rw (put_same i h.edge t f same) (keeps h.period h.start (rw same at h.stands))
        | no other ↦ rw (put_other i h.edge t f other) h.stands
      ])

-- A line under the one edge of a node

pub one_edge_stands : (L w : ℕ) → 0 < w → Stands L (one_edge w (line L)) w 0
unfolding Stands one_edge
one_edge_stands L w positive =
    stands_put_same L w 0 (line L) (λ e. nothing) w 0 (record {
      edge_below = positive;
      period = 1;
      start = 0;
      stands = (refl, refl, refl);
      period_is = sym (mul-one w);
      start_is = simp mul-zero;
    })

pub stands_one_edge : (K L w q u : ℕ) → Stands K (one_edge w (line L)) q u → (K ≡ L) × (q ≡ w) × (u ≡ 0)
unfolding Stands one_edge
stands_one_edge K L w q u h = go (put_stands K w 0 (line L) (λ e. nothing) q u h)
  where
    go : InPut K w 0 (line L) q u ⊎ NotInPut K w 0 (λ e. nothing) q u → (K ≡ L) × (q ≡ w) × (u ≡ 0)
    go (inl x) =
        let at_line = x.stands in (
          sym at_line.0,
          x.period_is ∙ ap (λ (n : ℕ). w * n) at_line.1 ∙ mul-one w,
          x.start_is ∙ ap (λ (n : ℕ). 0 + w * n) at_line.2 ∙ simp mul-zero,
        )
    go (inr x) = absurd x.in_node.stands

-- the line of a root of weight 1 is the only one, and its period is 1
pub alone_line : (K : ℕ) (t : Tree) (q u : ℕ) (alone : Alone t) → Stands K t q u → (K ≡ alone.number) × (q ≡ 1) × (u ≡ 0)
alone_line K t q u alone h =
    stands_one_edge K alone.number 1 q u (subst (λ (x : Tree). Stands K x q u) alone.tree h)
