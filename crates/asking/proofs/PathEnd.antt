-- Where a path that goes through a node ends: under that node, or further down.
-- Assumes nothing.
use Prim.Native.Nat.{ℕ, suc, ◌+◌, ◌<◌}
use native.Mathlib.Omega.{arith}
use mathlib.Core.Path.{◌≡◌}
use mathlib.Core.Logic.{◌⊎◌, inl, inr}
use mathlib.Core.Bool.{true}
use mathlib.Core.List.{List}
use lib.Dec.{eqb}
use lib.ListN.{length}
use borrow.Author.Tests.{eq-eqb, ne_eqb}
use Rattle.tree.specs.Record.{row_at, path_at}
use Rattle.paths.proofs.PathRest.{zero_or_not, path_length_at_most_11}
use Rattle.paths.proofs.PathRows.{path_ends, path_goes_on}

module _ (rows : List ℕ) (L : ℕ) {l : ℕ} (below : l < length (path_at rows L)) where
  -- no path is longer than 11 rows
  pub ends_in_last_row : l ≡ 10 → eqb (length (path_at rows L)) (suc l) ≡ true
  ends_in_last_row last = eq-eqb (length (path_at rows L)) (suc l) (omega (arith, path_length_at_most_11 rows L))

  -- v was read as the weight of the next row
  pub ends_by_weight : l + 1 < 11 → {v : ℕ} → v ≡ (row_at rows L (l + 1)).weight → eqb v 0 ≡ eqb (length (path_at rows L)) (suc l)
  ends_by_weight within {v} read = go (zero_or_not v)
    where
      go : (v ≡ 0) ⊎ (v ≡ 0 → ⊥) → eqb v 0 ≡ eqb (length (path_at rows L)) (suc l)
      go (inl z) =
          let end : length (path_at rows L) ≡ suc l = omega (arith, path_ends rows L (omega arith) within read z) in
          rw (eq-eqb _ _ z, eq-eqb _ _ end)
      go (inr n) =
          rw (ne_eqb _ _ n, ne_eqb (length (path_at rows L)) (suc l) (λ e. omega (arith, path_goes_on rows L (omega arith) within read n)))
