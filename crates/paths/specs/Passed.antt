-- The lines that the check of a record has passed (src/passed.rt).
-- Assumes nothing.
use Rattle.std.specs.Prelude.{ℕ, ◌%◌, ◌<◌, ◌≡◌, Bool, false, not, ◌&&◌, ◌||◌, List, eqb}
use Rattle.tree.specs.Record.{row_at, path_at, no_rows, parts}
use Rattle.tree.specs.Search.{all_below}
use Rattle.paths.specs.Chains.{Chained}
use Rattle.paths.specs.declared.passed.Passed.{Passed}

-- line L is open, and the edge that it takes at the root falls into bucket b
unfoldable pub root_bucket : List ℕ → ℕ → ℕ → Bool
root_bucket rows b L = not (no_rows (path_at rows L)) && eqb ((row_at rows L 0).edge % 128) b

-- line L parts from each line of bucket b below it
unfoldable pub parts_from_bucket : List ℕ → ℕ → ℕ → Bool
parts_from_bucket rows b L = all_below L (λ M. not (root_bucket rows b M) || parts (path_at rows M) (path_at rows L))

-- line L is open, with a root of weight w
abbrev pub HasRoot : List ℕ → ℕ → ℕ → Type 0
HasRoot rows w L = (no_rows (path_at rows L) ≡ false) × ((row_at rows L 0).weight ≡ w)

-- The lines below n were passed: the open ones have one root weight, and are in the chains by their edges there.
pub record PassedBelow (rows : List ℕ) (n : ℕ) (passed : Passed) : Type 0 where
  pub one_root : (L : ℕ) → L < n → no_rows (path_at rows L) ≡ false → (row_at rows L 0).weight ≡ passed.root
  pub some_line : (passed.root ≡ 0 → ⊥) → (L : ℕ) × (L < n) × HasRoot rows passed.root L
  pub chained : Chained (root_bucket rows) passed.chains n
