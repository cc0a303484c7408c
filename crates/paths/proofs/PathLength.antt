-- The invariant of `path_length`'s loop: the rows passed and those left make up the path. Then the lookup by the number of rows.
-- Assumes nothing.
use Prim.Native.Nat.{ℕ, ◌+◌, ◌<◌, ◌≤◌, zero-le}
use native.Mathlib.Omega.{arith}
use mathlib.Core.Path.{◌≡◌, refl, ap, sym}
use mathlib.Core.Bool.{true, false}
use mathlib.Core.List.{List, [], ◌∷◌}
use lib.ListN.{length}
use Rattle.tree.specs.declared.Row.{Row}
use Rattle.tree.specs.Record.{row_at, path_at, no_rows}
use Rattle.std.specs.Prelude.{None, Some}
use Rattle.std.proofs.lemmas.Option.{none-some}
use Rattle.paths.specs.Answers.{lookup}
use Rattle.paths.proofs.PathRest.{path_rest, path_rest_start, path_rest_row, path_rest_end, path_rest_none}

pub record Passed (rows : List ℕ) (L k : ℕ) : Type 0 where
  pub within : k ≤ 11
  pub same : k + length (path_rest rows L k) ≡ length (path_at rows L)

pub passed_none : (rows : List ℕ) (L : ℕ) → Passed rows L 0
passed_none rows L = record { within = zero-le; same = omega (arith, ap length (path_rest_start rows L)) }

module _ {rows : List ℕ} {L k : ℕ} (passed : Passed rows L k) where
  pub passed_all : 11 ≤ k → 11 ≡ length (path_at rows L)
  passed_all past = omega (arith, passed.within, ap length (path_rest_none rows L k past))

  module _ (below : k < 11) {w : ℕ} (read : w ≡ (row_at rows L k).weight) where
    pub passed_row : (w ≡ 0 → ⊥) → Passed rows L (k + 1)
    passed_row some_weight =
        let step = ap length (path_rest_row rows L k below read some_weight) in
        record { within = omega arith; same = omega arith }

    pub passed_path : w ≡ 0 → k ≡ length (path_at rows L)
    passed_path zero_weight = omega (arith, ap length (path_rest_end rows L k below read zero_weight))

-- The lookup

pub lookup_closed : (rs : List Row) → length rs ≡ 0 → lookup rs ≡ None
unfolding lookup
lookup_closed [] h = refl
lookup_closed (r ∷ rs) h = absurd (omega arith)

pub lookup_open : (rs : List Row) → (length rs ≡ 0 → ⊥) → lookup rs ≡ Some (length rs)
unfolding lookup
lookup_open [] h = absurd (h refl)
lookup_open (r ∷ rs) h = refl

-- what the lookup says of the path
pub lookup_nothing : (rs : List Row) → lookup rs ≡ None → no_rows rs ≡ true
unfolding lookup no_rows
lookup_nothing [] h = refl
lookup_nothing (r ∷ rs) h = absurd (none-some _ (sym h))

pub lookup_at : (rs : List Row) (n : ℕ) → lookup rs ≡ Some n → no_rows rs ≡ false
unfolding lookup no_rows
lookup_at [] n h = absurd (none-some n h)
lookup_at (r ∷ rs) n h = refl
