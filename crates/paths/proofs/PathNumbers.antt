-- The product and the sum over the first rows of a path, one row more at a time, and how large they get in a legal record.
-- Assumes nothing.
use Prim.Native.Nat.{ℕ, zero, suc, ◌+◌, ◌*◌, ◌<◌, ◌≤◌, zero-le}
use native.Mathlib.Omega.{arith}
use native.Mathlib.Nat.{mul-one, one-mul, mul-zero, mul-add, mul_assoc, mul_left_comm, mul_comm, mul-le-mul_left, le-mul_of_pos_right}
use native.Mathlib.Numerals.{add-one}
use mathlib.Core.Path.{◌≡◌, refl, sym, ◌∙◌, ap}
use mathlib.Core.Bool.{true}
use mathlib.Core.List.{List, [], ◌∷◌, ◌++◌}
use lib.ListN.{length, take}
use lib.Seq.{take-suc, take_all}
use Rattle.tree.specs.declared.Row.{Row}
use Rattle.tree.specs.Tree.{row, product, sum_from, sum}
use Rattle.tree.specs.Record.{row_at, path_at, legal}
use Rattle.tree.proofs.Standing.{sum_row}
use Rattle.paths.specs.Rules.{row_of}
use Rattle.paths.proofs.PathRows.{row_in_path}
use Rattle.paths.proofs.RangeLaws.{EdgesBelow, path_edges_below, period_in_range, row_edge_below, sum_below}
use Rattle.paths.proofs.LegalLines.{legal_in_range}

-- One row more

product_last : (rs : List Row) (r : Row) → product (rs ++ (r ∷ [])) ≡ product rs * r.weight
unfolding product
product_last [] r = omega (arith, mul-one r.weight, one-mul r.weight)
product_last (q ∷ rs) r = rw (product_last rs r, mul_assoc)

sum_none : sum [] ≡ 0
unfolding sum sum_from
sum_none = refl

sum_last : (rs : List Row) (r : Row) → sum (rs ++ (r ∷ [])) ≡ sum rs + r.edge * product rs
unfolding product
sum_last [] r = sum_row r [] ∙ rw (sum_none, mul-zero, mul-one) (omega arith)
sum_last (q ∷ rs) r = sum_row q (rs ++ (r ∷ [])) ∙ rw (sum_last rs r, sum_row q rs, mul-add, mul_left_comm r.edge q.weight (product rs)) (omega arith)

module _ (rs : List Row) (l : ℕ) (below : l < length rs) where
  first_rows : take (suc l) rs ≡ take l rs ++ (row_of l rs ∷ [])
  unfolding row_of
  first_rows = take-suc rs l (row 0 0) below

  product_more : product (take (suc l) rs) ≡ product (take l rs) * (row_of l rs).weight
  product_more = ap product first_rows ∙ product_last (take l rs) (row_of l rs)

  sum_more : sum (take (suc l) rs) ≡ sum (take l rs) + (row_of l rs).edge * product (take l rs)
  sum_more = ap sum first_rows ∙ sum_last (take l rs) (row_of l rs)

-- A path in range

take_edges_below : (rs : List Row) (l : ℕ) → EdgesBelow rs → EdgesBelow (take l rs)
unfolding EdgesBelow
take_edges_below [] zero h = tt
take_edges_below [] (suc l) h = tt
take_edges_below (r ∷ rs) zero h = tt
take_edges_below (r ∷ rs) (suc l) h = (h.0, take_edges_below rs l h.1)

-- the product over the first rows is at most that over all
take_product : (rs : List Row) (l : ℕ) → EdgesBelow rs → product (take l rs) ≤ product rs
unfolding EdgesBelow product
take_product [] zero h = omega arith
take_product [] (suc l) h = omega arith
take_product (r ∷ rs) zero h = omega (arith, sum_below (r ∷ rs) h)
take_product (r ∷ rs) (suc l) h = mul-le-mul_left r.weight (take_product rs l h.1)

-- The invariant of a loop along a line's path

-- m and s are the product and the sum of the first k rows
pub record Carried (rows : List ℕ) (L m s k : ℕ) : Type 0 where
  pub within : k ≤ length (path_at rows L)
  pub product_is : m ≡ product (take k (path_at rows L))
  pub sum_is : s ≡ sum (take k (path_at rows L))

pub carried_start : (rows : List ℕ) (L : ℕ) → Carried rows L 1 0 0
unfolding product sum sum_from
carried_start rows L = record { within = zero-le; product_is = refl; sum_is = refl }

pub edges_below : (rows : List ℕ) → legal rows ≡ true → (L : ℕ) → L < 64 → EdgesBelow (path_at rows L)
edges_below rows is_legal L below = path_edges_below (path_at rows L) (legal_in_range rows is_legal L below)

-- the start of a line is below its period; of a closed line they are 0 and 1
pub path_start_below : (rows : List ℕ) → legal rows ≡ true → (L : ℕ) → L < 64 → sum (path_at rows L) < product (path_at rows L)
path_start_below rows is_legal L below = sum_below (path_at rows L) (edges_below rows is_legal L below)

module _ {rows : List ℕ} {L m s k : ℕ} (carried : Carried rows L m s k) where
  pub carried_row : k < length (path_at rows L) → {e w : ℕ} → e ≡ (row_at rows L k).edge → w ≡ (row_at rows L k).weight → Carried rows L (m * w) (s + e * m) (k + 1)
  carried_row below read_edge read = record {
    within = omega arith;
    product_is = rw (add-one k, carried.product_is, read, ← row_in_path rows L below) (sym (product_more (path_at rows L) k below));
    sum_is = rw (add-one k, carried.sum_is, carried.product_is, read_edge, ← row_in_path rows L below) (sym (sum_more (path_at rows L) k below));
  }

  pub carried_all : length (path_at rows L) ≤ k → (m ≡ product (path_at rows L)) × (s ≡ sum (path_at rows L))
  carried_all past =
      let all = take_all k (path_at rows L) past in
      (carried.product_is ∙ ap product all, carried.sum_is ∙ ap sum all)

  module _ (is_legal : legal rows ≡ true) (line_below : L < 64) where
    edges : EdgesBelow (path_at rows L)
    edges = edges_below rows is_legal L line_below

    pub carried_below : s < m
    carried_below = rw (carried.sum_is, carried.product_is) (sum_below (take k (path_at rows L)) (take_edges_below (path_at rows L) k edges))

    -- neither is above 4,095
    pub carried_small : (m ≤ 4095) × (s ≤ 4095)
    carried_small =
        let most = take_product (path_at rows L) k edges in
        let period = period_in_range (path_at rows L) (legal_in_range rows is_legal L line_below) in
        let small : m ≤ 4095 = omega (arith, carried.product_is) in
        (small, omega (arith, carried_below))

-- The numbers of one row

module _ (rows : List ℕ) (is_legal : legal rows ≡ true) (L : ℕ) (line_below : L < 64) {k : ℕ} (below : k < length (path_at rows L)) where
  pub edge_below_weight : (row_of k (path_at rows L)).edge < (row_of k (path_at rows L)).weight
  edge_below_weight = row_edge_below (path_at rows L) (path_edges_below (path_at rows L) (legal_in_range rows is_legal L line_below)) k below

  above : Carried rows L (product (take k (path_at rows L))) (sum (take k (path_at rows L))) k
  above = record { within = omega arith; product_is = refl; sum_is = refl }

  -- it is a factor of a product that is at most 4,095
  pub weight_small : (row_of k (path_at rows L)).weight ≤ 4095
  weight_small =
      let w = (row_of k (path_at rows L)).weight in
      let m = product (take k (path_at rows L)) in
      let small : m * w ≤ 4095 = (carried_small (carried_row above below refl (ap (λ (r : Row). r.weight) (row_in_path rows L below))) is_legal line_below).0 in
      let factor : w ≤ w * m = le-mul_of_pos_right w (omega (arith, carried_below above is_legal line_below)) in
      omega (arith, mul_comm w m)
