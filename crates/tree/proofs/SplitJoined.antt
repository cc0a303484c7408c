-- A join takes a split back (`split`, specs/Opening.antt; `join`, specs/Closing.antt): a node that was split and is joined is the node again.
-- Assumes nothing.
use Prim.Native.Nat.{ℕ, ◌*◌, ◌/◌, ◌%◌, ◌<◌}
use native.Mathlib.Omega.{arith}
use native.Mathlib.Decide.{dec_lt}
use native.Mathlib.Nat.{mod-lt}
use mathlib.Core.Path.{◌≡◌, refl, sym, ◌∙◌, ap, ap₂, fun_ext}
use mathlib.Core.Bool.{Bool, true, false}
use borrow.Author.Tests.{eq-eqb}
use Rattle.tree.specs.Tree.{Tree, nothing, node, weight_of}
use Rattle.tree.specs.Opening.{free, group, split}
use Rattle.tree.specs.Shape.{Edges}
use Rattle.tree.specs.Closing.{of_weight, under_edge, joined_with, join}
use Rattle.tree.proofs.UnderEdge.{absent_nothing}
use Rattle.tree.proofs.Digits.{digits_of}
use Rattle.tree.proofs.Searching.{some_below_true}
use Rattle.tree.proofs.Classes.{free_absent, present_taken}
use Rattle.tree.proofs.Split.{group_nothing, group_node, split_groups}
use Rattle.tree.proofs.Joining.{OneWeight, one_weight_below}

module _ (d w : ℕ) (f : ℕ → Tree) where
  -- under each edge the split node has a group, which is a node of weight w/d, or nothing
  group_of_weight : (k : ℕ) → of_weight (w / d) (group d w f k) ≡ true
  unfolding of_weight
  group_of_weight k = go (free d w f k) refl
    where
      go : (b : Bool) → free d w f k ≡ b → of_weight (w / d) (group d w f k) ≡ true
      go true e = rw (group_nothing d w f k e) refl
      go false e = rw (group_node d w f k e) (eq-eqb (w / d) (w / d) refl)

  module _ (edges : Edges w f) (positive : 0 < d) where
    groups_weight : OneWeight d (w / d) (group d w f)
    unfolding weight_of
    groups_weight =
        let x = some_below_true w _ edges.not_empty in
        record {
          edge = x.0 % d;
          edge_below = mod-lt x.0 positive;
          leads_to = ap weight_of (group_node d w f (x.0 % d) (present_taken d w f x.0 x.1 x.2));
          all = λ k below. group_of_weight k;
        }

    -- an edge of a free class is absent
    free_nothing : (e : ℕ) → free d w f (e % d) ≡ true → f e ≡ nothing
    free_nothing e h =
        elim (dec_lt e w) [
          | yes below ↦ absent_nothing (f e) (free_absent d w f (e % d) e h below refl)
          | no beyond ↦ edges.below_weight e (omega arith)
        ]

    -- edge e stands again where it stood
    edge_again : (e : ℕ) → under_edge (e / d) (group d w f (e % d)) ≡ f e
    unfolding under_edge
    edge_again e = go (free d w f (e % d)) refl
      where
        go : (b : Bool) → free d w f (e % d) ≡ b → under_edge (e / d) (group d w f (e % d)) ≡ f e
        go true h = rw (group_nothing d w f (e % d) h) (sym (free_nothing e h))
        go false h = rw (group_node d w f (e % d) h) (ap f (digits_of e d))

    groups_joined : d * (w / d) ≡ w → join (node d (group d w f)) ≡ node w f
    unfolding join joined_with
    groups_joined divides = rw (join, one_weight_below d (w / d) (group d w f) groups_weight) (ap₂ node divides (fun_ext edge_again))

pub split_joined_back : (d w : ℕ) (f : ℕ → Tree) → Edges w f → 0 < d → d < w → d * (w / d) ≡ w → join (node d (split d w f)) ≡ node w f
split_joined_back d w f edges positive small divides =
    ap (λ (g : ℕ → Tree). join (node d g)) (split_groups d w f small) ∙ groups_joined d w f edges positive divides
