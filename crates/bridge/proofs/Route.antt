-- The route of a line through a tree: the rows from the root down to it. In a proper tree it is the line's path, and there is one at most.
-- Assumes nothing.
use Prim.Native.Nat.{ℕ, ◌<◌}
use mathlib.Core.Path.{◌≡◌, refl, sym, ◌∙◌, ap}
use mathlib.Core.List.{List, [], ◌∷◌}
use Rattle.std.specs.Prelude.{Option, None, Some}
use Rattle.std.proofs.lemmas.Option.{none-some}
use borrow.Author.Tests.{eq-eqb}
use Rattle.tree.specs.declared.Row.{Row}
use Rattle.tree.specs.Tree.{Tree, nothing, line, node, row, product, sum_from, sum, path}
use Rattle.tree.specs.Standing.{Stands}
use Rattle.tree.proofs.Proper.{Proper}
use Rattle.tree.proofs.Standing.{sum_row, path_of_line, path_below}
use Rattle.bridge.proofs.NodePath.{path_under}

-- The rows go through a node of weight w. `R e qs` says that the rows qs go on under edge e.
pub record ThroughEdge (w : ℕ) (rs : List Row) (R : ℕ → List Row → Type 0) : Type 0 where
  pub edge : ℕ
  pub rest : List Row
  pub edge_below : edge < w
  pub route : R edge rest
  pub rows_are : rs ≡ row w edge ∷ rest

-- The rows lead from the root of the tree to line M.
unfoldable pub Route : ℕ → Tree → List Row → Type 0
Route M nothing rs = ⊥
Route M (line n) rs = (n ≡ M) × (rs ≡ [])
Route M (node w f) rs = ThroughEdge w rs (λ e qs. Route M (f e) qs)

-- a route that goes on under edge e goes through the node
pub route_under : (M w : ℕ) (f : ℕ → Tree) (e : ℕ) (rs : List Row) → e < w → Route M (f e) rs → Route M (node w f) (row w e ∷ rs)
unfolding Route
route_under M w f e rs below h = record { edge = e; rest = rs; edge_below = below; route = h; rows_are = refl }

-- something else with the same rows
abbrev pub same_rows : {w : ℕ} {rs : List Row} {R S : ℕ → List Row → Type 0} (x : ThroughEdge w rs R) → S x.edge x.rest → ThroughEdge w rs S
same_rows x h =
    record { edge = x.edge; rest = x.rest; edge_below = x.edge_below; route = h; rows_are = x.rows_are }

pub route_stands : (M : ℕ) (t : Tree) (rs : List Row) → Route M t rs → Stands M t (product rs) (sum rs)
unfolding Route Stands product sum sum_from
route_stands M nothing rs h = absurd h
route_stands M (line n) rs h = (h.0, ap product h.1, ap sum h.1)
route_stands M (node w f) rs h =
    record {
      edge = h.edge;
      period = product h.rest;
      start = sum h.rest;
      edge_below = h.edge_below;
      stands = route_stands M (f h.edge) h.rest h.route;
      period_is = ap product h.rows_are;
      start_is = ap sum h.rows_are ∙ sum_row (row w h.edge) h.rest;
    }

-- A path is a route, and a route is the path

pub path_route : (M : ℕ) (t : Tree) (rs : List Row) → path M t ≡ Some rs → Route M t rs
unfolding path Route
path_route M nothing rs h = absurd (none-some rs h)
path_route M (line n) rs h = path_of_line M n rs h
path_route M (node w f) rs h =
    let x = path_below M w f rs h in
    record {
      edge = x.edge;
      rest = x.rest;
      edge_below = x.edge_below;
      route = path_route M (f x.edge) x.rest x.path_is;
      rows_are = x.rows_are;
    }

pub route_path : (M : ℕ) (t : Tree) (rs : List Row) → Proper t → Route M t rs → path M t ≡ Some rs
unfolding path Route Proper
route_path M nothing rs proper h = absurd h
route_path M (line n) rs proper h = rw (eq-eqb n M h.0, h.1)
route_path M (node w f) rs proper h =
    let below = route_path M (f h.edge) h.rest (proper.2 h.edge) h.route in
    path_under M w f h.edge h.rest proper.1 h.edge_below below ∙ ap Some (sym h.rows_are)

pub no_route_path_none : (M : ℕ) (t : Tree) → ((rs : List Row) → Route M t rs → ⊥) → path M t ≡ None
no_route_path_none M t absent = go (path M t) refl
  where
    go : (o : Option (List Row)) → path M t ≡ o → path M t ≡ None
    go None e = e
    go (Some rs) e = absurd (absent rs (path_route M t rs e))
