-- What a path in range is (`path_in_range` of crate tree, specs/Record.antt), how large its edges are, and its sum beside its product.
-- Assumes nothing.
use Prim.Native.Nat.{ℕ, zero, suc, ◌<◌, ◌≤◌}
use native.Mathlib.Omega.{arith}
use mathlib.Core.Path.{◌≡◌, refl, sym, subst}
use mathlib.Core.Logic.{◌⊎◌, inl, inr}
use mathlib.Core.Bool.{Bool, true, false, ◌||◌, and-eq-true_iff}
use mathlib.Core.List.{List, [], ◌∷◌}
use lib.Dec.{ltb, leb}
use lib.ListN.{length}
use borrow.Author.Tests.{ltb-true, leb-true}
use Rattle.tree.specs.declared.Row.{Row}
use Rattle.tree.specs.Tree.{row, product, sum_from, sum}
use Rattle.tree.specs.Record.{rows_in_range, alone, path_in_range}
use Rattle.tree.proofs.AlonePaths.{alone_row}
use Rattle.tree.proofs.Digits.{digits_below}
use Rattle.tree.proofs.Standing.{sum_row}
use Rattle.paths.specs.Rules.{row_of}

-- A path in range is that of a line with a root of weight 1 to itself, or its rows are in range

either_true : (a b : Bool) → (a || b) ≡ true → (a ≡ true) ⊎ (b ≡ true)
either_true true b h = inl refl
either_true false b h = inr h

module _ (rs : List Row) (in_range : path_in_range rs ≡ true) where
  pub alone_or_in_range : (rs ≡ row 1 0 ∷ []) ⊎ (rows_in_range rs ≡ true)
  unfolding path_in_range
  alone_or_in_range =
      elim (either_true (alone rs) (rows_in_range rs) ((and-eq-true_iff (alone rs || rows_in_range rs) (leb (product rs) 4095)).0 in_range).0) [
        | inl h ↦ inl (alone_row rs h)
        | inr h ↦ inr h
      ]

  pub period_in_range : product rs ≤ 4095
  unfolding path_in_range
  period_in_range = leb-true _ _ ((and-eq-true_iff (alone rs || rows_in_range rs) (leb (product rs) 4095)).0 in_range).1

pub row_in_range : (r : Row) (rs : List Row) → rows_in_range (r ∷ rs) ≡ true → (2 ≤ r.weight) × (r.edge < r.weight) × (rows_in_range rs ≡ true)
unfolding rows_in_range
row_in_range r rs h =
    let both = (and-eq-true_iff (leb 2 r.weight) _).0 h in
    let rest = (and-eq-true_iff (ltb r.edge r.weight) _).0 both.1 in
    (leb-true _ _ both.0, ltb-true _ _ rest.0, rest.1)

pub weight_at_least_2 : (rs : List Row) → rows_in_range rs ≡ true → (k : ℕ) → k < length rs → 2 ≤ (row_of k rs).weight
unfolding row_of
weight_at_least_2 [] in_range k there = absurd (omega arith)
weight_at_least_2 (r ∷ rs) in_range zero there = (row_in_range r rs in_range).0
weight_at_least_2 (r ∷ rs) in_range (suc k) there = weight_at_least_2 rs (row_in_range r rs in_range).2 k (omega arith)

-- Each edge is below its weight

unfoldable pub EdgesBelow : List Row → Type 0
EdgesBelow [] = Unit {0}
EdgesBelow (r ∷ rs) = (r.edge < r.weight) × EdgesBelow rs

rows_edges_below : (rs : List Row) → rows_in_range rs ≡ true → EdgesBelow rs
unfolding EdgesBelow
rows_edges_below [] h = tt
rows_edges_below (r ∷ rs) h = let here = row_in_range r rs h in (here.1, rows_edges_below rs here.2)

pub path_edges_below : (rs : List Row) → path_in_range rs ≡ true → EdgesBelow rs
unfolding EdgesBelow
path_edges_below rs in_range =
    elim (alone_or_in_range rs in_range) [
      | inl h ↦ subst EdgesBelow (sym h) (omega arith, tt)
      | inr h ↦ rows_edges_below rs h
    ]

pub row_edge_below : (rs : List Row) → EdgesBelow rs → (k : ℕ) → k < length rs → (row_of k rs).edge < (row_of k rs).weight
unfolding EdgesBelow row_of
row_edge_below [] h k below = absurd (omega arith)
row_edge_below (r ∷ rs) h zero below = h.0
row_edge_below (r ∷ rs) h (suc k) below = row_edge_below rs h.1 k (omega arith)

-- then the sum is below the product
pub sum_below : (rs : List Row) → EdgesBelow rs → sum rs < product rs
unfolding EdgesBelow product sum sum_from
sum_below [] h = omega arith
sum_below (r ∷ rs) h = rw (sum_row r rs) (digits_below r.weight (product rs) r.edge (sum rs) h.0 (sum_below rs h.1))
