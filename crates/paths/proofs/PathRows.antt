-- The rows of a line's path are the first rows of the record's for that line: each before the path's end stands in it, and has a weight.
-- Assumes nothing.
use Prim.Native.Nat.{ℕ, zero, suc, ◌+◌, ◌-◌, ◌<◌, ◌≤◌}
use native.Mathlib.Omega.{arith}
use native.Mathlib.Numerals.{add-one}
use mathlib.Core.Path.{◌≡◌, refl, sym, ◌∙◌, ap}
use mathlib.Core.List.{List, ◌∷◌}
use lib.ListN.{length, drop, length-drop}
use lib.Seq.{drop-drop, get_or-drop}
use Rattle.tree.specs.declared.Row.{Row}
use Rattle.tree.specs.Tree.{row}
use Rattle.tree.specs.Record.{row_at, path_at}
use Rattle.paths.specs.Rules.{row_of}
use Rattle.paths.proofs.PathRest.{path_rest, path_rest_start, path_rest_row, path_rest_end, path_length_at_most_11}

module _ (rows : List ℕ) (L : ℕ) where
  pub within_path : {k : ℕ} → k < length (path_at rows L) → k < 11
  within_path below = omega (arith, path_length_at_most_11 rows L)

  -- the path has not ended before row k, so that row has a weight
  weight_of_rest : (k : ℕ) → k < length (path_at rows L) → drop k (path_at rows L) ≡ path_rest rows L k → (row_at rows L k).weight ≡ 0 → ⊥
  weight_of_rest k below rest z =
      let none = ap length (rest ∙ path_rest_end rows L k (within_path below) refl z) in
      omega (arith, length-drop k (path_at rows L))

  pub drop_path : (k : ℕ) → k ≤ length (path_at rows L) → drop k (path_at rows L) ≡ path_rest rows L k
  drop_path zero within = sym (path_rest_start rows L)
  drop_path (suc k) within =
      let earlier = drop_path k (omega arith) in
      let goes_on = path_rest_row rows L k (within_path (omega arith)) refl (weight_of_rest k (omega arith) earlier) in
      rw (← add-one k, ← drop-drop 1 k (path_at rows L), earlier, goes_on)

  pub path_rest_length : (k : ℕ) → k ≤ length (path_at rows L) → length (path_rest rows L k) ≡ length (path_at rows L) - k
  path_rest_length k within = rw (← drop_path k within) (length-drop k (path_at rows L))

  -- w was read as the weight of row k, which the path comes to
  module _ {k : ℕ} (within : k ≤ length (path_at rows L)) (below : k < 11) {w : ℕ} (read : w ≡ (row_at rows L k).weight) where
    pub path_ends : w ≡ 0 → length (path_at rows L) ≤ k
    path_ends zero_weight = omega (arith, path_rest_length k within, ap length (path_rest_end rows L k below read zero_weight))

    pub path_goes_on : (w ≡ 0 → ⊥) → k < length (path_at rows L)
    path_goes_on some_weight = omega (arith, path_rest_length k within, ap length (path_rest_row rows L k below read some_weight))

  module _ {k : ℕ} (below : k < length (path_at rows L)) where
    rest_of_path : drop k (path_at rows L) ≡ path_rest rows L k
    rest_of_path = drop_path k (omega arith)

    pub weight_in_path : (row_at rows L k).weight ≡ 0 → ⊥
    weight_in_path = weight_of_rest k below rest_of_path

    row_left : path_rest rows L k ≡ row_at rows L k ∷ path_rest rows L (k + 1)
    row_left = path_rest_row rows L k (within_path below) refl weight_in_path

    pub row_in_path : row_of k (path_at rows L) ≡ row_at rows L k
    unfolding row_of
    row_in_path =
        let here : k + 0 ≡ k = omega arith in
        sym (rw here at (get_or-drop k (path_at rows L) 0 (row 0 0))) ∙ rw (rest_of_path, row_left)

    -- w was read as its weight
    pub weight_read : {w : ℕ} → w ≡ (row_at rows L k).weight → (row_of k (path_at rows L)).weight ≡ w
    weight_read read = ap (λ (r : Row). r.weight) row_in_path ∙ sym read
