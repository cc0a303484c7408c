-- Where one more line may stand in a tree: at the end of a path in range that parts from the path of every line there.
-- Assumes nothing.
use Prim.Native.Nat.{ℕ, ◌<◌}
use native.Mathlib.Omega.{arith}
use mathlib.Core.Path.{◌≡◌, refl, sym, ◌∙◌, ap}
use mathlib.Core.Bool.{true, false, false≢true, not-eq-not}
use mathlib.Core.List.{List, [], ◌∷◌}
use Rattle.std.specs.Prelude.{Some}
use Rattle.std.proofs.lemmas.Option.{none-some}
use Rattle.tree.specs.declared.Row.{Row}
use Rattle.tree.specs.Search.{found}
use Rattle.tree.specs.Tree.{Tree, nothing, line, node, present, row, path, is_open}
use Rattle.tree.specs.Record.{parts}
use Rattle.tree.proofs.Proper.{Proper}
use Rattle.tree.proofs.Standing.{path_below, not_open_below}
use Rattle.paths.proofs.PathsPart.{parts_none, parts_row}
use Rattle.paths.proofs.RangeLaws.{EdgesBelow}
use Rattle.bridge.proofs.NodePath.{path_under}
use Rattle.bridge.proofs.SameTree.{present_path, path_here}

-- Line L may stand at the end of the path rs: it stands nowhere, and the path of every line parts from rs

pub record Parted (L : ℕ) (rs : List Row) (t : Tree) : Type 0 where
  pub proper : Proper t
  pub edges_below : EdgesBelow rs
  pub not_open : is_open L t ≡ false
  pub parting : (M : ℕ) (qs : List Row) → path M t ≡ Some qs → parts qs rs ≡ true

module _ (L : ℕ) where
  pub not_parted_from_line : (n : ℕ) (rs : List Row) → Parted L rs (line n) → ⊥
  unfolding parts
  not_parted_from_line n rs p = false≢true (p.parting n [] (path_here n))

  pub no_rows_empty_tree : (t : Tree) → Parted L [] t → t ≡ nothing
  unfolding present
  no_rows_empty_tree nothing p = refl
  no_rows_empty_tree (line n) p = absurd (not_parted_from_line n [] p)
  no_rows_empty_tree (node w f) p =
      let x = present_path (node w f) p.proper refl in
      absurd (false≢true (sym (parts_none x.1) ∙ p.parting x.0 x.1 x.2))

  pub parted_from_nothing : (rs : List Row) → EdgesBelow rs → Parted L rs nothing
  unfolding Proper path is_open found
  parted_from_nothing rs below =
      record { proper = tt; edges_below = below; not_open = refl; parting = λ M qs h. absurd (none-some qs h) }

  module _ (r : Row) (rs : List Row) (w : ℕ) (f : ℕ → Tree) (p : Parted L (r ∷ rs) (node w f)) where
    pub parted_weight : w ≡ r.weight
    unfolding present
    parted_weight =
        let x = present_path (node w f) p.proper refl in
        let below = path_below x.0 w f x.1 x.2 in
        (parts_row (row w below.edge) below.rest r rs (p.parting x.0 _ (x.2 ∙ ap Some below.rows_are))).0

    pub parted_edge : r.edge < w
    unfolding EdgesBelow
    parted_edge = let e = p.edges_below.0 in let same = parted_weight in omega arith

    pub parted_below : Parted L rs (f r.edge)
    unfolding Proper EdgesBelow
    parted_below =
        record {
          proper = p.proper.2 r.edge;
          edges_below = p.edges_below.1;
          not_open = not-eq-not.0 (not_open_below L w f p.proper.1 p.not_open r.edge);
          parting = λ M qs h. (parts_row (row w r.edge) qs r rs (p.parting M _ (path_under M w f r.edge qs p.proper.1 parted_edge h))).1 refl;
        }
