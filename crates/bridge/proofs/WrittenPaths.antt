-- Paths that a line's 11 rows can hold: each is the path of a line with its rows.
-- Assumes nothing.
use Prim.Native.Nat.{ℕ, zero, suc, ◌+◌, ◌≤◌, ◌<◌}
use native.Mathlib.Omega.{arith}
use native.Mathlib.Decide.{dec_lt}
use native.Mathlib.Numerals.{add-one}
use mathlib.Core.Path.{◌≡◌, refl, sym, ap, ap₂, ◌∙◌}
use mathlib.Core.List.{List, [], ◌∷◌}
use lib.ListN.{length, drop, drop_of_length-le}
use lib.Seq.{drop-cons}
use Rattle.tree.specs.declared.Row.{Row}
use Rattle.tree.specs.Tree.{row}
use Rattle.tree.specs.Record.{row_at, path_at}
use Rattle.paths.specs.Rules.{row_of}
use Rattle.paths.proofs.PathRest.{path_rest, path_rest_start, path_rest_row, path_rest_end, path_rest_none}
use Rattle.paths.proofs.RowLaws.{row_beyond}

-- every weight is above 0
unfoldable pub Weighted : List Row → Type 0
Weighted [] = Unit
Weighted (r ∷ rs) = (0 < r.weight) × Weighted rs

-- a path that a line's 11 rows can hold
pub record Written (rs : List Row) : Type 0 where
  pub at_most_11 : length rs ≤ 11
  pub weighted : Weighted rs

weight_above_0 : (rs : List Row) (k : ℕ) → Weighted rs → k < length rs → 0 < (row_of k rs).weight
unfolding Weighted row_of
weight_above_0 [] k w below = absurd (omega arith)
weight_above_0 (r ∷ rs) zero w below = w.0
weight_above_0 (r ∷ rs) (suc k) w below = weight_above_0 rs k w.1 (omega arith)

-- Reading a path from a line's rows

module _ (rows : List ℕ) (L : ℕ) (rs : List Row) (w : Written rs) (same : (k : ℕ) → k < 11 → row_at rows L k ≡ row_of k rs) where
  rest_of_rows : (n k : ℕ) → k + n ≡ 11 → path_rest rows L k ≡ drop k rs
  unfolding row_of
  rest_of_rows zero k sum =
      let most = w.at_most_11 in
      path_rest_none rows L k (omega arith) ∙ sym (drop_of_length-le rs {i = k} (omega arith))
  rest_of_rows (suc n) k sum =
      let here = same k (omega arith) in
      elim (dec_lt k (length rs)) [
        | yes below ↦
            path_rest_row rows L k (omega arith) refl (λ none. omega (arith, weight_above_0 rs k w.weighted below, ap (λ (r : Row). r.weight) here))
            ∙ ap₂ ◌∷◌ here (rest_of_rows n (k + 1) (omega arith))
            ∙ rw add-one (sym (drop-cons rs k (row 0 0) below))
        | no beyond ↦
            path_rest_end rows L k (omega arith) refl (ap (λ (r : Row). r.weight) (here ∙ row_beyond rs k (omega arith)))
            ∙ sym (drop_of_length-le rs {i = k} (omega arith))
      ]

  -- with the rows of a path, the path is read back
  pub path_of_rows : path_at rows L ≡ rs
  path_of_rows = sym (path_rest_start rows L) ∙ rest_of_rows 11 0 refl
