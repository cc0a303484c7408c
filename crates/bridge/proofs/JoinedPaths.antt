-- Routes after a node is joined (`at_level join`, specs/Joining.antt): those through it have two rows joined into one, and the others stay.
-- Assumes nothing.
use Rattle.std.specs.Prelude.{if◌then◌else◌, Some}
use Prim.Native.Nat.{ℕ, zero, suc, ◌+◌, ◌*◌, ◌<◌}
use native.Mathlib.Decide.{ℕ_discrete}
use mathlib.Core.Path.{◌≡◌, refl, sym}
use mathlib.Core.Logic.{inl, inr}
use mathlib.Core.Bool.{Bool, true, false}
use mathlib.Core.List.{List, [], ◌∷◌}
use Rattle.std.proofs.lemmas.Option.{none-some}
use borrow.Author.Tests.{eq-eqb, ne_eqb}
use Rattle.tree.specs.declared.Row.{Row}
use Rattle.tree.specs.Tree.{Tree, nothing, line, node, row}
use Rattle.tree.specs.Closing.{joined_with, join}
use Rattle.tree.proofs.Digits.{digits_below}
use Rattle.tree.proofs.Put.{put_same, put_other}
use Rattle.tree.proofs.Joining.{OneWeight, of_weight_either, weight_below_some, joined_edge, join_some}
use Rattle.paths.specs.Rules.{same_node, join_path}
use Rattle.bridge.specs.Joining.{along, at_level, weight_to_join}
use Rattle.bridge.proofs.Route.{Route, ThroughEdge, route_under}

-- The node joined

-- rows k and j of the two nodes become one row
route_joined_with : (M w v : ℕ) (f : ℕ → Tree) (k : ℕ) (rs : List Row) → OneWeight w v f → k < w → Route M (f k) rs →
    Route M (joined_with v w f) (join_path 0 (row w k ∷ rs))
unfolding joined_with join_path Route
route_joined_with M w v f k rs one below h = elim (of_weight_either v (f k) (one.all k below)) [
  | inl gone ↦ absurd (rw gone at h)
  | inr child ↦
      let x : ThroughEdge v rs (λ j qs. Route M (child.0 j) qs) = rw child.1 at h in
      rw x.rows_are
      (route_under M (w * v) _ (k + w * x.edge) x.rest (digits_below w v k x.edge below x.edge_below) (rw (joined_edge w v f one k x.edge below child.0 child.1) x.route))
]

-- Along a path

join_below_row : (l : ℕ) (b : Bool) (r : Row) (rs : List Row) → (if b then join_path (suc l) (r ∷ rs) else (r ∷ rs)) ≡ r ∷ (if b then join_path l rs else rs)
unfolding join_path
join_below_row l true r rs = refl
join_below_row l false r rs = refl

pub join_along_route : (M l : ℕ) (ps : List Row) (t : Tree) (v : ℕ) (rs : List Row) → weight_to_join (along l ps t) ≡ Some v → Route M t rs →
    Route M (at_level join l ps t) (if same_node l ps rs then join_path l rs else rs)
unfolding weight_to_join along at_level same_node Route
join_along_route M l [] t v rs one h = absurd (none-some v one)
join_along_route M zero (p ∷ ps) nothing v rs one h = absurd h
join_along_route M zero (p ∷ ps) (line n) v rs one h = absurd (none-some v one)
join_along_route M zero (p ∷ ps) (node w f) v rs one h =
    rw (h.rows_are, join_some w v f one) (route_joined_with M w v f h.edge h.rest (weight_below_some w v f one) h.edge_below h.route)
join_along_route M (suc l) (p ∷ ps) nothing v rs one h = absurd h
join_along_route M (suc l) (p ∷ ps) (line n) v rs one h = absurd (none-some v one)
join_along_route M (suc l) (p ∷ ps) (node w f) v rs one h =
    elim (ℕ_discrete h.edge p.edge) [
      | yes same ↦
          rw (h.rows_are, eq-eqb p.edge h.edge (sym same), join_below_row)
          (route_under M w _ h.edge _ h.edge_below (rw (put_same p.edge h.edge _ f same) (join_along_route M l ps (f p.edge) v h.rest one (rw same at h.route))))
      | no other ↦
          rw (h.rows_are, ne_eqb p.edge h.edge (λ same. other (sym same)))
          (route_under M w _ h.edge h.rest h.edge_below (rw (put_other p.edge h.edge _ f other) h.route))
    ]
