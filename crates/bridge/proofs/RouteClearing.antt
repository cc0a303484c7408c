-- Paths after a line is taken out: that line has none, and every other line keeps its path.
-- Assumes nothing.
use Prim.Native.Nat.{ℕ}
use mathlib.Core.Path.{◌≡◌, refl, sym, ◌∙◌}
use mathlib.Core.List.{List}
use Rattle.std.specs.Prelude.{Option, None, Some}
use borrow.Author.Tests.{ne_eqb}
use Rattle.tree.specs.declared.Row.{Row}
use Rattle.tree.specs.Tree.{Tree, nothing, line, node, path}
use Rattle.tree.specs.Shape.{Legal}
use Rattle.tree.specs.Closing.{prune, cleared}
use Rattle.tree.proofs.Searching.{some_below_at}
use Rattle.tree.proofs.UnderEdge.{stands_present}
use Rattle.tree.proofs.Standing.{path_found}
use Rattle.tree.proofs.Proper.{legal_proper}
use Rattle.tree.proofs.Clearing.{prune_kept, cleared_stands, cleared_legal}
use Rattle.bridge.proofs.Route.{Route, route_stands, path_route, route_path, no_route_path_none, same_rows}

route_prune : (M w : ℕ) (g : ℕ → Tree) (rs : List Row) → Route M (node w g) rs → Route M (prune w g) rs
unfolding Route
route_prune M w g rs h =
    rw (prune_kept w g (some_below_at w _ h.edge h.edge_below (stands_present M _ _ _ (route_stands M _ _ h.route)))) h

route_cleared : (L M : ℕ) (t : Tree) (rs : List Row) → (M ≡ L → ⊥) → Route M t rs → Route M (cleared L t) rs
unfolding cleared Route
route_cleared L M nothing rs other h = h
route_cleared L M (line n) rs other h = rw (ne_eqb n L (λ same. other (sym h.0 ∙ same))) h
route_cleared L M (node w f) rs other h =
    route_prune M w _ rs (same_rows h (route_cleared L M (f h.edge) h.rest other h.route))

pub cleared_path_other : (L M : ℕ) (t : Tree) → Legal t → (M ≡ L → ⊥) → path M (cleared L t) ≡ path M t
cleared_path_other L M t legal other = go (path M t) refl
  where
    go : (o : Option (List Row)) → path M t ≡ o → path M (cleared L t) ≡ path M t
    go (Some rs) e =
        route_path M (cleared L t) rs (legal_proper (cleared L t) (cleared_legal L t legal)) (route_cleared L M t rs other (path_route M t rs e)) ∙ sym e
    go None e =
        no_route_path_none M (cleared L t) (λ rs h. path_found M t _ _ (cleared_stands L M t _ _ (route_stands M (cleared L t) rs h)).0 e) ∙ sym e

pub cleared_path_gone : (L : ℕ) (t : Tree) → path L (cleared L t) ≡ None
cleared_path_gone L t =
    no_route_path_none L (cleared L t) λ rs h. (cleared_stands L L t _ _ (route_stands L (cleared L t) rs h)).1 refl
