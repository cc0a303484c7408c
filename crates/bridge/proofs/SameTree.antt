-- A proper tree is determined by the paths of its lines.
-- Assumes nothing.
use Prim.Native.Nat.{ℕ, ◌<◌}
use native.Mathlib.Omega.{arith}
use native.Mathlib.Decide.{dec_lt}
use mathlib.Core.Path.{◌≡◌, refl, sym, ◌∙◌, ap, ap₂, fun_ext}
use mathlib.Core.Bool.{true}
use mathlib.Core.List.{List, []}
use Rattle.std.specs.Prelude.{None, Some}
use borrow.Author.Tests.{eq-eqb}
use Rattle.tree.specs.declared.Row.{Row}
use Rattle.tree.specs.Tree.{Tree, nothing, line, node, present, path, is_open}
use Rattle.tree.specs.Shape.{Edges}
use Rattle.tree.proofs.Options.{same_option}
use Rattle.tree.proofs.Searching.{found_some}
use Rattle.tree.proofs.Proper.{Proper}
use Rattle.tree.proofs.Standing.{path_below, path_of_line, stands_open}
use Rattle.tree.proofs.Clearing.{proper_present_line}
use Rattle.bridge.proofs.NodePath.{path_under, path_under_edge}

-- Where something stands, some line has a path

pub present_path : (t : Tree) → Proper t → present t ≡ true → (M : ℕ) × (rs : List Row) × (path M t ≡ Some rs)
unfolding is_open
present_path t proper here =
    let x = proper_present_line t proper here in
    let p = found_some (path x.0 t) (stands_open x.0 t x.1 x.2 x.3) in
    (x.0, p.0, p.1)

-- the path of a line that stands at the root
pub path_here : (n : ℕ) → path n (line n) ≡ Some []
unfolding path
path_here n = rw (eq-eqb n n refl)

no_paths_nothing : (t : Tree) → Proper t → ((M : ℕ) → path M t ≡ None) → t ≡ nothing
unfolding present
no_paths_nothing nothing proper absent = refl
no_paths_nothing (line n) proper absent = let here = path_here n in let away = absent n in cc
no_paths_nothing (node w f) proper absent =
    let x = present_path (node w f) proper refl in
    let away = absent x.0 in
    let here = x.2 in
    cc

-- no path ends at a node
pub path_goes_on : (M w : ℕ) (f : ℕ → Tree) → path M (node w f) ≡ Some [] → ⊥
path_goes_on M w f h =
    let x = path_below M w f [] h in
    let y = x.rows_are in
    let z : ◌≡◌ {A = ℕ} 0 1 = cc in
    omega arith

-- Two nodes in which every line has the same path

module _ (w v : ℕ) (f g : ℕ → Tree) (same : (M : ℕ) → path M (node w f) ≡ path M (node v g)) where
  same_weight : Proper (node w f) → w ≡ v
  unfolding present
  same_weight proper =
      let x = present_path (node w f) proper refl in
      let a = path_below x.0 w f x.1 x.2 in
      (path_under_edge x.0 v g w a.edge a.rest (sym (same x.0) ∙ x.2 ∙ ap Some a.rows_are)).0

  path_in_other : Edges w f → (e M : ℕ) (rs : List Row) → e < w → path M (f e) ≡ Some rs → path M (g e) ≡ Some rs
  path_in_other edges e M rs below h =
      (path_under_edge M v g w e rs (sym (same M) ∙ path_under M w f e rs edges below h)).1

pub same_paths_same_tree : (t s : Tree) → Proper t → Proper s → ((M : ℕ) → path M t ≡ path M s) → t ≡ s
unfolding Proper path
same_paths_same_tree nothing s pt ps same = sym (no_paths_nothing s ps (λ M. sym (same M)))
same_paths_same_tree (line n) nothing pt ps same = no_paths_nothing (line n) pt same
same_paths_same_tree (line n) (line k) pt ps same = ap line (sym (path_of_line n k [] (sym (same n) ∙ path_here n)).0)
same_paths_same_tree (line n) (node v g) pt ps same = absurd (path_goes_on n v g (sym (same n) ∙ path_here n))
same_paths_same_tree (node w f) nothing pt ps same = no_paths_nothing (node w f) pt same
same_paths_same_tree (node w f) (line k) pt ps same = absurd (path_goes_on k w f (same k ∙ path_here k))
same_paths_same_tree (node w f) (node v g) pt ps same =
    let weight = same_weight w v f g same pt in
    ap₂ node weight (fun_ext λ e.
    elim (dec_lt e w) [
      | yes below ↦ same_paths_same_tree (f e) (g e) (pt.2 e) (ps.2 e) λ M.
          same_option (path M (f e)) (path M (g e))
          (λ rs. path_in_other w v f g same pt.1 e M rs below)
          (λ rs. path_in_other v w g f (λ K. sym (same K)) ps.1 e M rs (omega arith))
      | no beyond ↦ pt.1.below_weight e (omega arith) ∙ sym (ps.1.below_weight e (omega arith))
    ])
