-- The path of a line beside the line's rows: how far it goes, and that it hangs on these rows alone.
-- Assumes nothing.
use Prim.Native.Nat.{ℕ, zero, suc, ◌+◌, ◌<◌, ◌≤◌}
use native.Mathlib.Omega.{arith}
use native.Mathlib.Nat.{le_refl}
use native.Mathlib.Decide.{dec_lt}
use mathlib.Core.Path.{◌≡◌, refl, ap}
use mathlib.Core.Bool.{true}
use mathlib.Core.List.{List}
use lib.ListN.{length}
use Rattle.tree.specs.Record.{row_at, path_from, path_at, rest_unused}
use Rattle.tree.proofs.Searching.{all_below_at, all_below_each}
use Rattle.paths.proofs.PathRest.{path_rest_row}
use Rattle.paths.proofs.PathRows.{path_rest_length}
use Rattle.paths.proofs.UnusedRows.{row_right}

-- it goes on past row l where the rows up to that one have weights: it does not end at one of them
pub path_goes_on : (rows : List ℕ) (L l : ℕ) → l < 11 → ((k : ℕ) → k ≤ l → (row_at rows L k).weight ≡ 0 → ⊥) → l < length (path_at rows L)
path_goes_on rows L l within weights =
    elim (dec_lt l (length (path_at rows L))) [
      | yes below ↦ below
      | no past ↦
          let end = length (path_at rows L) in
          let more = ap length (path_rest_row rows L end (omega arith) refl (weights end (omega arith))) in
          absurd (omega (arith, path_rest_length rows L end (le_refl end)))
    ]

module _ (a b : List ℕ) (L : ℕ) (same : (k : ℕ) → k < 11 → row_at a L k ≡ row_at b L k) where
  path_from_same : (n k : ℕ) → k + n ≤ 11 → path_from a L k n ≡ path_from b L k n
  unfolding path_from
  path_from_same zero k h = refl
  path_from_same (suc n) k h = rw (same k (omega arith), path_from_same n (suc k) (omega arith))

  pub path_same : path_at a L ≡ path_at b L
  unfolding path_at
  path_same = path_from_same 11 0 (omega arith)

  pub rest_unused_same : rest_unused a L ≡ true → rest_unused b L ≡ true
  unfolding rest_unused
  rest_unused_same h = all_below_each 11 (row_right b L) (λ k below. rw (← path_same, ← same k below) (all_below_at 11 (row_right a L) h k below))
