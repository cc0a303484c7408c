-- The check of a path: the invariant of `check_rows`'s loop, and the path of a line with a root of weight 1 to itself.
-- Assumes nothing.
use Rattle.std.specs.Prelude.{if◌then◌else◌, Option, None, Some}
use Prim.Native.Nat.{ℕ, suc, ◌+◌, ◌*◌, ◌<◌, ◌≤◌, zero-le}
use native.Mathlib.Omega.{arith}
use native.Mathlib.Nat.{lt_of_lt_of_le, mul-le-mul_left, mul_assoc, mul-one, one-mul, zero-add}
use mathlib.Core.Path.{◌≡◌, refl, sym, ◌∙◌, ap}
use mathlib.Core.Logic.{◌⊎◌, inl, inr}
use mathlib.Core.Bool.{false, ◌&&◌, and-false}
use mathlib.Core.List.{List, [], ◌∷◌}
use lib.Dec.{leb}
use lib.ListN.{length}
use borrow.Author.Tests.{lt-ltb, le-ltb, le-leb, lt-leb, eq-eqb, ne_eqb}
use Rattle.tree.specs.declared.Row.{Row}
use Rattle.tree.specs.Tree.{product}
use Rattle.tree.specs.Record.{row_at, path_at, rows_in_range, alone, path_in_range}
use Rattle.tree.proofs.AlonePaths.{not_alone_by_weight}
use Rattle.paths.specs.Answers.{rows_checked, path_checked}
use Rattle.paths.proofs.PathRest.{zero_or_not, path_rest, path_rest_start, path_rest_row, path_rest_end, path_rest_none, path_rest_product}

-- the answer after k rows whose product is m, where the rows rs are left
unfoldable pub checked_from : ℕ → ℕ → List Row → Option ℕ
checked_from m k rs = if rows_in_range rs && leb (m * product rs) 4095 then Some (k + length rs) else None

-- the rows passed are in range, their product is m, and what is left decides
pub record InRange (rows : List ℕ) (L m k : ℕ) : Type 0 where
  pub within : k ≤ 11
  pub small : m ≤ 4095
  pub same : rows_checked (path_at rows L) ≡ checked_from m k (path_rest rows L k)

pub in_range_start : (rows : List ℕ) (L : ℕ) → InRange rows L 1 0
unfolding rows_checked checked_from
in_range_start rows L = record {
  within = zero-le;
  small = omega arith;
  same = rw (path_rest_start rows L, one-mul, zero-add);
}

-- no rows are left
checked_end : (m k : ℕ) → m ≤ 4095 → checked_from m k [] ≡ Some k
unfolding checked_from rows_in_range product
checked_end m k small =
    let none : k + 0 ≡ k = omega arith in
    rw (mul-one, le-leb _ _ small, none)

module _ {rows : List ℕ} {L m k : ℕ} (checked : InRange rows L m k) where
  pub in_range_all : 11 ≤ k → rows_checked (path_at rows L) ≡ Some 11
  in_range_all past =
      let all : k ≡ 11 = omega arith in
      checked.same ∙ rw (path_rest_none rows L k past) (checked_end m k checked.small) ∙ ap Some all

  -- w was read as the weight of row k
  module _ (below : k < 11) {w : ℕ} (read : w ≡ (row_at rows L k).weight) where
    pub in_range_end : w ≡ 0 → rows_checked (path_at rows L) ≡ Some k
    in_range_end zero_weight = checked.same ∙ rw (path_rest_end rows L k below read zero_weight) (checked_end m k checked.small)

    module _ (some_weight : w ≡ 0 → ⊥) where
      pub weight_too_small : w < 2 → rows_checked (path_at rows L) ≡ None
      unfolding checked_from rows_in_range
      weight_too_small h =
          let low : (row_at rows L k).weight < 2 = omega arith in
          checked.same ∙ rw (path_rest_row rows L k below read some_weight, lt-leb _ _ low)

      -- and e as its edge
      module _ (two : 2 ≤ w) {e : ℕ} (read_edge : e ≡ (row_at rows L k).edge) where
        weight_fits : 2 ≤ (row_at rows L k).weight
        weight_fits = omega arith

        pub edge_too_large : w ≤ e → rows_checked (path_at rows L) ≡ None
        unfolding checked_from rows_in_range
        edge_too_large h =
            let large : (row_at rows L k).weight ≤ (row_at rows L k).edge = omega arith in
            checked.same ∙ rw (path_rest_row rows L k below read some_weight, le-leb _ _ weight_fits, le-ltb _ _ large)

        module _ (edge_fits : e < w) where
          edge_below : (row_at rows L k).edge < (row_at rows L k).weight
          edge_below = omega arith

          one_row : checked_from m k (path_rest rows L k) ≡ checked_from (m * w) (k + 1) (path_rest rows L (k + 1))
          unfolding checked_from rows_in_range product
          one_row =
              let count : k + suc (length (path_rest rows L (k + 1))) ≡ k + 1 + length (path_rest rows L (k + 1)) = omega arith in
              rw (path_rest_row rows L k below read some_weight, le-leb _ _ weight_fits, lt-ltb _ _ edge_below, read, mul_assoc, count)

          pub period_too_large : 4095 < m * w → rows_checked (path_at rows L) ≡ None
          unfolding checked_from
          period_too_large h =
              let rest = mul-le-mul_left (m * w) (path_rest_product rows L (k + 1)) in
              let large : 4095 < m * w * product (path_rest rows L (k + 1)) = lt_of_lt_of_le h (rw mul-one at rest) in
              checked.same ∙ one_row ∙ rw (lt-leb _ _ large, and-false)

          pub in_range_row : m * w ≤ 4095 → InRange rows L (m * w) (k + 1)
          in_range_row h = record { within = omega arith; small = h; same = checked.same ∙ one_row }

-- The path of a line with a root of weight 1 to itself

-- the path has a first row, of weight w
first_row : (rows : List ℕ) (L : ℕ) {w : ℕ} → w ≡ (row_at rows L 0).weight → (w ≡ 0 → ⊥) → path_at rows L ≡ row_at rows L 0 ∷ path_rest rows L 1
first_row rows L read some_weight = sym (path_rest_start rows L) ∙ path_rest_row rows L 0 (omega arith) read some_weight

not_alone_by_edge : (r : Row) (rs : List Row) → (r.edge ≡ 0 → ⊥) → alone (r ∷ rs) ≡ false
unfolding alone
not_alone_by_edge r [] other = rw (ne_eqb _ _ other, and-false)
not_alone_by_edge r (s ∷ rs) other = refl

-- a path that is not alone is in range where its rows are
not_alone : (rs : List Row) → alone rs ≡ false → path_checked rs ≡ rows_checked rs
unfolding path_checked path_in_range rows_checked
not_alone rs h = rw h

-- a first row of weight 1 that is not alone is a fault
one_not_alone : (r : Row) (rs : List Row) → r.weight ≡ 1 → alone (r ∷ rs) ≡ false → path_checked (r ∷ rs) ≡ None
unfolding rows_checked rows_in_range
one_not_alone r rs one h = not_alone (r ∷ rs) h ∙ rw one

module _ (rows : List ℕ) (L : ℕ) {w : ℕ} (read : w ≡ (row_at rows L 0).weight) where
  pub alone_has_weight_1 : (w ≡ 1 → ⊥) → alone (path_at rows L) ≡ false
  unfolding alone
  alone_has_weight_1 other = go (zero_or_not w)
    where
      go : (w ≡ 0) ⊎ (w ≡ 0 → ⊥) → alone (path_at rows L) ≡ false
      go (inl z) = rw (← path_rest_start rows L, path_rest_end rows L 0 (omega arith) read z)
      go (inr n) = rw (first_row rows L read n) (not_alone_by_weight (row_at rows L 0) (path_rest rows L 1) (λ e. other (read ∙ e)))

  pub weight_not_one : (w ≡ 1 → ⊥) → path_checked (path_at rows L) ≡ rows_checked (path_at rows L)
  weight_not_one other = not_alone (path_at rows L) (alone_has_weight_1 other)

  module _ (one : w ≡ 1) {e : ℕ} (read_edge : e ≡ (row_at rows L 0).edge) where
    root : path_at rows L ≡ row_at rows L 0 ∷ path_rest rows L 1
    root = first_row rows L read (λ z. omega arith)

    weight_one : (row_at rows L 0).weight ≡ 1
    weight_one = sym read ∙ one

    pub root_edge_not_0 : (e ≡ 0 → ⊥) → path_checked (path_at rows L) ≡ None
    root_edge_not_0 other = rw root (one_not_alone _ _ weight_one (not_alone_by_edge _ _ (λ z. other (read_edge ∙ z))))

    module _ (edge_0 : e ≡ 0) {v : ℕ} (read_second : v ≡ (row_at rows L 1).weight) where
      pub root_not_alone : (v ≡ 0 → ⊥) → path_checked (path_at rows L) ≡ None
      unfolding alone
      root_not_alone more = rw (root, path_rest_row rows L 1 (omega arith) read_second more) (one_not_alone _ _ weight_one refl)

      pub root_alone : v ≡ 0 → path_checked (path_at rows L) ≡ Some 1
      unfolding path_checked path_in_range alone product
      root_alone none = rw (root, path_rest_end rows L 1 (omega arith) read_second none, eq-eqb _ _ weight_one, eq-eqb _ _ (sym read_edge ∙ edge_0), weight_one)
