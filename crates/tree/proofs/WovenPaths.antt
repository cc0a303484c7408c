-- The paths of a woven tree (`woven`, specs/Weaving.antt): a line has its path on its side, with the root's row in front, but the path (1, 0) is left out.
-- Assumes nothing.
use Rattle.std.specs.Prelude.{if◌then◌else◌, Option, None, Some, option_map}
use Prim.Native.Nat.{ℕ}
use native.Mathlib.Omega.{arith}
use mathlib.Core.Path.{◌≡◌, refl, sym, ◌∙◌, ap, ap₂}
use mathlib.Core.Logic.{◌⊎◌, inl, inr}
use mathlib.Core.Bool.{Bool, true, false}
use mathlib.Core.List.{List, [], ◌∷◌}
use Rattle.std.proofs.lemmas.Option.{none-some}
use lib.Dec.{eqb}
use borrow.Author.Tests.{ne_eqb}
use Rattle.tree.specs.declared.Row.{Row}
use Rattle.tree.specs.Search.{found, or_else, first}
use Rattle.tree.specs.Tree.{Tree, nothing, line, node, row, path, is_open}
use Rattle.tree.specs.Opening.{put, one_edge}
use Rattle.tree.specs.Closing.{prune}
use Rattle.tree.specs.Shape.{LegalUnder, Alone, Legal}
use Rattle.tree.specs.Record.{alone}
use Rattle.tree.specs.Weaving.{side, woven, woven_path}
use Rattle.tree.proofs.AlonePaths.{not_alone_by_weight}
use Rattle.tree.proofs.Options.{mapped_found}
use Rattle.tree.proofs.Searching.{some_below_at}
use Rattle.tree.proofs.UnderEdge.{stands_present}
use Rattle.tree.proofs.Standing.{path_of_line, path_below, path_stands}
use Rattle.tree.proofs.Clearing.{prune_either, prune_kept}

-- What stands under the root's edges

-- the edges of the root, those of empty sides too
abbrev pub root_edges : Tree → Tree → ℕ → Tree
root_edges a b = put 0 (side a) (put 1 (side b) (λ e. nothing))

-- on its side a tree stands as it is, unless its root has weight 1
pub side_either : (t : Tree) → Legal t → ((side t ≡ t) × LegalUnder 1 t) ⊎ Alone t
unfolding side Legal LegalUnder
side_either nothing legal = inl (refl, tt)
side_either (line n) legal = absurd legal
side_either (node w f) (inl legal) =
    let two = legal.0 in
    inl (rw (ne_eqb w 1 (λ one. omega arith)), legal)
side_either (node w f) (inr alone) = inr alone

-- and where it has, that root's line does
pub alone_side : (t : Tree) (alone : Alone t) → side t ≡ line alone.number
unfolding side one_edge put
alone_side t alone = rw alone.tree

-- The path of a line on its side

-- only a root of weight 1 makes the path (1, 0)
path_not_alone : (t : Tree) (L : ℕ) (rs : List Row) → LegalUnder 1 t → path L t ≡ Some rs → alone rs ≡ false
unfolding LegalUnder path alone
path_not_alone nothing L rs legal h = absurd (none-some rs h)
path_not_alone (line n) L rs legal h = ap alone (path_of_line L n rs h).1
path_not_alone (node w f) L rs legal h =
    let x = path_below L w f rs h in
    let two = legal.0 in
    ap alone x.rows_are ∙ not_alone_by_weight (row w x.edge) x.rest (λ one. omega arith)

tree_path : (t : Tree) (L e : ℕ) → LegalUnder 1 t → option_map (◌∷◌ (row 2 e)) (path L t) ≡ option_map (woven_path e) (path L t)
unfolding woven_path
tree_path t L e legal = go (path L t) refl
  where
    go : (o : Option (List Row)) → path L t ≡ o → option_map (◌∷◌ (row 2 e)) o ≡ option_map (woven_path e) o
    go None h = refl
    go (Some rs) h = rw (path_not_alone t L rs legal h)

-- and the path (1, 0) becomes the root's row alone
alone_path_moved : (t : Tree) (L e : ℕ) (alone : Alone t) → option_map (◌∷◌ (row 2 e)) (path L (line alone.number)) ≡ option_map (woven_path e) (path L t)
unfolding path first or_else one_edge put alone woven_path
alone_path_moved t L e alone =
    rw alone.tree (by_test (eqb alone.number L))
  where
    by_test : (b : Bool) → option_map (◌∷◌ (row 2 e)) (if b then Some [] else None) ≡ option_map (woven_path e) (option_map (◌∷◌ (row 1 0)) (if b then Some [] else None))
    by_test true = refl
    by_test false = refl

side_path : (t : Tree) (L e : ℕ) → Legal t → option_map (◌∷◌ (row 2 e)) (path L (side t)) ≡ option_map (woven_path e) (path L t)
side_path t L e legal =
    elim (side_either t legal) [
      | inl x ↦ rw x.0 (tree_path t L e x.1)
      | inr alone ↦ rw (alone_side t alone) (alone_path_moved t L e alone)
    ]

-- the open lines of a tree are those of its side
pub side_open : (t : Tree) (L : ℕ) → Legal t → is_open L (side t) ≡ is_open L t
unfolding is_open
side_open t L legal =
    sym (mapped_found (◌∷◌ (row 2 0)) (path L (side t))) ∙ ap found (side_path t L 0 legal) ∙ mapped_found (woven_path 0) (path L t)

-- The path of a line in the woven tree

-- a node loses no line where it is pruned
prune_path : (L w : ℕ) (g : ℕ → Tree) → path L (prune w g) ≡ path L (node w g)
unfolding path
prune_path L w g = go (path L (node w g)) refl
  where
    go : (o : Option (List Row)) → path L (node w g) ≡ o → path L (prune w g) ≡ path L (node w g)
    go None h = prune_either (λ t. path L t ≡ path L (node w g)) w g (λ kept. refl) (sym h)
    go (Some rs) h =
        let x = path_below L w g rs h in
        ap (path L) (prune_kept w g (some_below_at w _ x.edge x.edge_below (stands_present L _ _ _ (path_stands L _ x.rest x.path_is))))

pub woven_path_is : (a b : Tree) (L : ℕ) → Legal a → Legal b → path L (woven a b) ≡ or_else (option_map (woven_path 0) (path L a)) (option_map (woven_path 1) (path L b))
unfolding woven path first or_else put
woven_path_is a b L legal_a legal_b =
    prune_path L 2 (root_edges a b) ∙ ap₂ or_else (side_path a L 0 legal_a) (side_path b L 1 legal_b)
