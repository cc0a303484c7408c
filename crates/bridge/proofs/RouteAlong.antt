-- Routes through what stands at a level along a path (`along`, specs/Joining.antt): they are what is left there of the routes that go through the same node.
-- Assumes nothing.
use Prim.Native.Nat.{ℕ, zero, suc}
use native.Mathlib.Omega.{arith}
use native.Mathlib.Decide.{dec_lt}
use mathlib.Core.Path.{◌≡◌, refl, subst}
use mathlib.Core.Bool.{true, false≢true, and-eq-true_iff}
use mathlib.Core.List.{List, [], ◌∷◌}
use lib.Dec.{eqb}
use lib.ListN.{drop}
use borrow.Author.Tests.{eqb-true, eq-eqb}
use Rattle.tree.specs.declared.Row.{Row}
use Rattle.tree.specs.Tree.{Tree, nothing, line, node, row}
use Rattle.tree.proofs.Proper.{Proper}
use Rattle.paths.specs.Rules.{same_node}
use Rattle.bridge.specs.Joining.{along}
use Rattle.bridge.proofs.Route.{Route, route_under}

pub along_proper : (l : ℕ) (ps : List Row) (t : Tree) → Proper t → Proper (along l ps t)
unfolding along Proper
along_proper l [] t proper = tt
along_proper zero (p ∷ ps) t proper = proper
along_proper (suc l) (p ∷ ps) nothing proper = tt
along_proper (suc l) (p ∷ ps) (line n) proper = tt
along_proper (suc l) (p ∷ ps) (node w f) proper = along_proper l ps (f p.edge) (proper.2 p.edge)

-- a route through the same node goes on there
pub route_along : (M l : ℕ) (ps : List Row) (t : Tree) (rs : List Row) → same_node l ps rs ≡ true → Route M t rs → Route M (along l ps t) (drop l rs)
unfolding along same_node Route
route_along M l [] t rs same h = absurd (false≢true same)
route_along M zero (p ∷ ps) t rs same h = h
route_along M (suc l) (p ∷ ps) nothing rs same h = h
route_along M (suc l) (p ∷ ps) (line n) rs same h = absurd (false≢true (rw h.1 at same))
route_along M (suc l) (p ∷ ps) (node w f) rs same h =
    let both = (and-eq-true_iff (eqb p.edge h.edge) (same_node l ps h.rest)).0 (rw h.rows_are at same) in
    rw (h.rows_are, eqb-true p.edge h.edge both.0) (route_along M l ps (f h.edge) h.rest both.1 h.route)

-- a route to line M that goes through the same node, and on by these rows from there
pub record RouteThrough (M l : ℕ) (ps : List Row) (t : Tree) (qs : List Row) : Type 0 where
  pub rows : List Row
  pub route : Route M t rows
  pub same : same_node l ps rows ≡ true
  pub rest_is : drop l rows ≡ qs

-- the rows that go on from there belong to a route through the same node
pub along_route : (M l : ℕ) (ps : List Row) (t : Tree) (q : Row) (qs : List Row) → Proper t → Route M (along l ps t) (q ∷ qs) → RouteThrough M l ps t (q ∷ qs)
unfolding along same_node Route Proper
along_route M l [] t q qs proper h = absurd h
along_route M zero (p ∷ ps) t q qs proper h = record { rows = q ∷ qs; route = h; same = refl; rest_is = refl }
along_route M (suc l) (p ∷ ps) nothing q qs proper h = absurd h
along_route M (suc l) (p ∷ ps) (line n) q qs proper h = absurd h
along_route M (suc l) (p ∷ ps) (node w f) q qs proper h =
    let x = along_route M l ps (f p.edge) q qs (proper.2 p.edge) h in
    elim (dec_lt p.edge w) [
      | yes below ↦ record {
        rows = row w p.edge ∷ x.rows;
        route = route_under M w f p.edge x.rows below x.route;
        same = rw (eq-eqb p.edge p.edge refl) x.same;
        rest_is = x.rest_is;
      }
      | no beyond ↦ absurd (subst (λ (s : Tree). Route M s x.rows) (proper.1.below_weight p.edge (omega arith)) x.route)
    ]
