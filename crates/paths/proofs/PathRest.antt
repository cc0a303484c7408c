-- What is left of a line's path from row k on: how it goes on, how long it is, and its product.
-- Assumes nothing.
use Rattle.std.specs.Prelude.{if◌then◌else◌}
use Prim.Native.Nat.{ℕ, zero, suc, ◌+◌, ◌-◌, ◌<◌, ◌≤◌, zero-le}
use native.Mathlib.Omega.{arith}
use native.Mathlib.Nat.{mul-le-mul}
use native.Mathlib.Numerals.{add-one}
use mathlib.Core.Path.{◌≡◌, refl, sym, ◌∙◌}
use mathlib.Core.Logic.{◌⊎◌, inl, inr}
use mathlib.Core.Bool.{Bool, true, false}
use mathlib.Core.List.{List, [], ◌∷◌}
use lib.Dec.{eqb}
use lib.ListN.{length}
use borrow.Author.Tests.{eq-eqb, ne_eqb, eqb-false}
use Rattle.tree.specs.declared.Row.{Row}
use Rattle.tree.specs.Tree.{product}
use Rattle.tree.specs.Record.{row_at, path_from, path_at, no_rows}

-- the rows of line L's path from row k on
unfoldable pub path_rest : List ℕ → ℕ → ℕ → List Row
path_rest rows L k = path_from rows L k (11 - k)

pub zero_or_not : (n : ℕ) → (n ≡ 0) ⊎ (n ≡ 0 → ⊥)
zero_or_not zero = inl refl
zero_or_not (suc n) = inr (λ e. omega arith)

-- at most n rows, each of a weight above 0
pub path_from_length : (rows : List ℕ) (L k n : ℕ) → length (path_from rows L k n) ≤ n
unfolding path_from
path_from_length rows L k zero = zero-le
path_from_length rows L k (suc n) = go (path_from_length rows L (suc k) n) (eqb (row_at rows L k).weight 0)
  where
    go : length (path_from rows L (suc k) n) ≤ n → (b : Bool) → length (if b then [] else (row_at rows L k ∷ path_from rows L (suc k) n)) ≤ suc n
    go later true = zero-le
    go later false = omega arith

pub path_from_product : (rows : List ℕ) (L k n : ℕ) → 1 ≤ product (path_from rows L k n)
unfolding path_from product
path_from_product rows L k zero = omega arith
path_from_product rows L k (suc n) = go (path_from_product rows L (suc k) n) (eqb (row_at rows L k).weight 0) refl
  where
    go : 1 ≤ product (path_from rows L (suc k) n) → (b : Bool) → eqb (row_at rows L k).weight 0 ≡ b → 1 ≤ product (if b then [] else (row_at rows L k ∷ path_from rows L (suc k) n))
    go later true e = omega arith
    go later false e =
        let some_weight : 1 ≤ (row_at rows L k).weight = omega (arith, eqb-false (row_at rows L k).weight 0 e) in
        mul-le-mul some_weight later

module _ (rows : List ℕ) (L : ℕ) where
  pub path_length_at_most_11 : length (path_at rows L) ≤ 11
  unfolding path_at
  path_length_at_most_11 = path_from_length rows L 0 11

  -- the first row's weight says whether there are rows
  pub no_rows_by_weight : no_rows (path_at rows L) ≡ eqb (row_at rows L 0).weight 0
  unfolding path_at path_from no_rows
  no_rows_by_weight = go (eqb (row_at rows L 0).weight 0)
    where
      go : (b : Bool) → no_rows (if b then [] else (row_at rows L 0 ∷ path_from rows L 1 10)) ≡ b
      go true = refl
      go false = refl

  pub path_rest_start : path_rest rows L 0 ≡ path_at rows L
  unfolding path_rest path_at
  path_rest_start = refl

  pub path_rest_product : (k : ℕ) → 1 ≤ product (path_rest rows L k)
  unfolding path_rest
  path_rest_product k = path_from_product rows L k (11 - k)

  pub path_rest_none : (k : ℕ) → 11 ≤ k → path_rest rows L k ≡ []
  unfolding path_rest path_from
  path_rest_none k h = let e : 11 - k ≡ 0 = omega arith in rw e

  -- w was read as the weight of row k
  module _ (k : ℕ) (within : k < 11) {w : ℕ} (read : w ≡ (row_at rows L k).weight) where
    one_more : 11 - k ≡ suc (11 - (k + 1))
    one_more = omega arith

    -- a row of weight 0 ends the path
    pub path_rest_end : w ≡ 0 → path_rest rows L k ≡ []
    unfolding path_rest path_from
    path_rest_end zero_weight = rw (one_more, eq-eqb _ _ (sym read ∙ zero_weight))

    -- any other row stands in it
    pub path_rest_row : (w ≡ 0 → ⊥) → path_rest rows L k ≡ row_at rows L k ∷ path_rest rows L (k + 1)
    unfolding path_rest path_from
    path_rest_row some_weight = rw (one_more, ne_eqb _ _ (λ z. some_weight (read ∙ z)), add-one)
