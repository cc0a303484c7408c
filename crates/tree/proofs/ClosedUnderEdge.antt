-- Closing a line that stands under one edge of a node and nowhere else in it (`closed`, specs/Closing.antt): what stands under that edge is closed, and then the node is joined.
-- Assumes nothing.
use Prim.Native.Nat.{ℕ, ◌<◌}
use native.Mathlib.Decide.{ℕ_discrete}
use mathlib.Core.Path.{◌≡◌, refl, sym, ◌∙◌, ap, fun_ext}
use mathlib.Core.Bool.{true}
use mathlib.Core.List.{List, ◌∷◌}
use Rattle.std.specs.Prelude.{Some, option_map}
use Rattle.tree.specs.declared.Row.{Row}
use Rattle.tree.specs.Tree.{Tree, node, present, row, path, path_of, is_open}
use Rattle.tree.specs.Standing.{Stands}
use Rattle.tree.specs.Opening.{put}
use Rattle.tree.specs.Closing.{cleared, join_fully, joined_up, closed}
use Rattle.tree.proofs.Options.{mapped_some}
use Rattle.tree.proofs.Searching.{first_only, found_some}
use Rattle.tree.proofs.Put.{put_same, put_other, put_twice}
use Rattle.tree.proofs.Proper.{Proper}
use Rattle.tree.proofs.Standing.{path_stands, stands_open}
use Rattle.tree.proofs.Clearing.{prune_present, absent_line_cleared}

-- joining along a path through edge k joins what was put there, and then the node
put_joined_up : (w k : ℕ) (t : Tree) (f : ℕ → Tree) (rs : List Row) → joined_up (row w k ∷ rs) (node w (put k t f)) ≡ join_fully (node w (put k (joined_up rs t) f))
unfolding joined_up
put_joined_up w k t f rs =
    ap (λ (g : ℕ → Tree). join_fully (node w g))
    (ap (λ (x : Tree). put k (joined_up rs x) (put k t f)) (put_same k k t f refl) ∙ put_twice k (joined_up rs t) t f)

module _ (L w k : ℕ) (t : Tree) (f : ℕ → Tree) (below : k < w) (absent : (e q u : ℕ) → Stands L (f e) q u → ⊥) where
  -- the path goes through edge k
  path_through : (rs : List Row) → path L t ≡ Some rs → path L (node w (put k t f)) ≡ Some (row w k ∷ rs)
  unfolding path
  path_through rs h =
      first_only w _ k (row w k ∷ rs) below (rw (put_same k k t f refl, h) refl) only
    where
      only : (j : ℕ) (b : List Row) → option_map (◌∷◌ (row w j)) (path L (put k t f j)) ≡ Some b → j ≡ k
      only j b e =
          elim (ℕ_discrete j k) [
            | yes same ↦ same
            | no other ↦
                let x = mapped_some (◌∷◌ (row w j)) (path L (put k t f j)) b e in
                absurd (absent j _ _ (path_stands L (f j) x.0 (ap (path L) (sym (put_other k j t f other)) ∙ x.1)))
          ]

  -- of what stands under the edges only t changes
  edge_cleared : ((e : ℕ) → Proper (f e)) → (e : ℕ) → cleared L (put k t f e) ≡ put k (cleared L t) f e
  edge_cleared proper e =
      elim (ℕ_discrete e k) [
        | yes same ↦ ap (cleared L) (put_same k e t f same) ∙ sym (put_same k e (cleared L t) f same)
        | no other ↦
            ap (cleared L) (put_other k e t f other) ∙ absent_line_cleared L (f e) (proper e) (absent e) ∙ sym (put_other k e (cleared L t) f other)
      ]

  cleared_under_edge : ((e : ℕ) → Proper (f e)) → present (cleared L (node w (put k t f))) ≡ true → cleared L (node w (put k t f)) ≡ node w (put k (cleared L t) f)
  unfolding cleared
  cleared_under_edge proper left = prune_present w _ left ∙ ap (node w) (fun_ext (edge_cleared proper))

  -- where something is left
  pub closed_under_edge : ((e : ℕ) → Proper (f e)) → (q u : ℕ) → Stands L t q u → present (cleared L (node w (put k t f))) ≡ true →
      closed L (node w (put k t f)) ≡ join_fully (node w (put k (closed L t) f))
  unfolding is_open
  closed_under_edge proper q u h left = go (found_some (path L t) (stands_open L t q u h))
    where
      go : (rs : List Row) × (path L t ≡ Some rs) → closed L (node w (put k t f)) ≡ join_fully (node w (put k (closed L t) f))
      go x = unfold closed path_of in rw (path_through x.0 x.1, x.1, cleared_under_edge proper left) (put_joined_up w k (cleared L t) f x.0)
