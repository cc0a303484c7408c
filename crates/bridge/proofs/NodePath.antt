-- The path of a line through a node: its first row, and its path under the edge taken.
-- Assumes nothing.
use Prim.Native.Nat.{ℕ, ◌<◌}
use native.Mathlib.Decide.{ℕ_discrete}
use mathlib.Core.Path.{◌≡◌, sym, ◌∙◌, ap, fun_ext}
use mathlib.Core.List.{List, ◌∷◌}
use Rattle.std.specs.Prelude.{Some, option_map}
use Rattle.tree.proofs.Options.{mapped_some}
use Rattle.tree.specs.declared.Row.{Row}
use Rattle.tree.specs.Search.{found, first}
use Rattle.tree.specs.Tree.{Tree, node, row, path, is_open}
use Rattle.tree.specs.Opening.{put}
use Rattle.tree.specs.Shape.{Edges}
use Rattle.tree.proofs.Searching.{first_only}
use Rattle.tree.proofs.Put.{put_same, put_other}
use Rattle.tree.proofs.Standing.{path_below}

pub path_under : (M w : ℕ) (f : ℕ → Tree) (e : ℕ) (rs : List Row) → Edges w f → e < w → path M (f e) ≡ Some rs → path M (node w f) ≡ Some (row w e ∷ rs)
unfolding path is_open found
path_under M w f e rs edges below h =
    first_only w _ e (row w e ∷ rs) below (ap (option_map (◌∷◌ (row w e))) h) only
  where
    only : (j : ℕ) (qs : List Row) → option_map (◌∷◌ (row w j)) (path M (f j)) ≡ Some qs → j ≡ e
    only j qs k = edges.line_once M j e (ap found (mapped_some (◌∷◌ (row w j)) (path M (f j)) _ k).1) (ap found h)

same_row : (w v e k : ℕ) (rs qs : List Row) → row w e ∷ rs ≡ row v k ∷ qs → (w ≡ v) × (e ≡ k) × (rs ≡ qs)
same_row w v e k rs qs h =
    let first : row w e ≡ row v k = cc in
    (ap (λ (r : Row). r.weight) first, ap (λ (r : Row). r.edge) first, (cc))

pub path_under_edge : (M w : ℕ) (f : ℕ → Tree) (v e : ℕ) (rs : List Row) → path M (node w f) ≡ Some (row v e ∷ rs) → (v ≡ w) × (path M (f e) ≡ Some rs)
path_under_edge M w f v e rs h =
    let x = path_below M w f (row v e ∷ rs) h in
    let same = same_row v w e x.edge rs x.rest x.rows_are in
    (same.0, ap (λ (k : ℕ). path M (f k)) same.1 ∙ x.path_is ∙ ap Some (sym same.2))

-- a line keeps its path where it keeps the path below the edge that something was put under
pub path_put : (M w i : ℕ) (t : Tree) (f : ℕ → Tree) → path M t ≡ path M (f i) → path M (node w (put i t f)) ≡ path M (node w f)
unfolding path
path_put M w i t f h = ap (first w) (fun_ext λ e. ap (option_map (◌∷◌ (row w e))) (each e))
  where
    each : (e : ℕ) → path M (put i t f e) ≡ path M (f e)
    each e =
        elim (ℕ_discrete e i) [
          | yes same ↦ ap (path M) (put_same i e t f same) ∙ h ∙ ap (λ (k : ℕ). path M (f k)) (sym same)
          | no different ↦ ap (path M) (put_other i e t f different)
        ]
