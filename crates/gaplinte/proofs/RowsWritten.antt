-- The loop that writes what show gives as numbers: the period, the start, and two for each row.
-- Assumes nothing.
use Prim.Native.Nat.{ℕ, suc, ◌+◌, ◌*◌, ◌<◌, ◌≤◌}
use native.Mathlib.Omega.{arith}
use mathlib.Core.Path.{◌≡◌, refl, sym, ap}
use mathlib.Core.List.{List}
use lib.ListN.{length, get_or, set, replicate}
use Rattle.tree.specs.declared.Row.{Row}
use Rattle.tree.specs.Tree.{row}
use Rattle.tree.specs.Asking.{Shown}
use Rattle.paths.specs.Rules.{row_of}
use Rattle.paths.proofs.RowLaws.{row_in, row_in_numbers, numbers_length}
use Rattle.paths.proofs.Filled.{Filled, filled_none, filled_more, filled_is}
use Rattle.gaplinte.specs.Served.{shown_numbers}

module _ (s : Shown) where
  -- the first k numbers are written
  abbrev pub NumbersWritten : List ℕ → ℕ → Type 0
  NumbersWritten numbers k = Filled 0 24 (λ i. get_or (shown_numbers s) i 0) numbers k

  weight_is : (k : ℕ) → (get_or s.rows k (row 0 0)).weight ≡ get_or (shown_numbers s) (2 + 2 * k) 0
  unfolding shown_numbers row_of row_in
  weight_is k =
      let behind : 2 + 2 * k ≡ suc (suc (2 * k)) = omega arith in
      rw behind (sym (ap (λ (r : Row). r.weight) (row_in_numbers s.rows k)))

  edge_is : (k : ℕ) → (get_or s.rows k (row 0 0)).edge ≡ get_or (shown_numbers s) (2 + 2 * k + 1) 0
  unfolding shown_numbers row_of row_in
  edge_is k =
      let behind : 2 + 2 * k + 1 ≡ suc (suc (2 * k + 1)) = omega arith in
      rw behind (sym (ap (λ (r : Row). r.edge) (row_in_numbers s.rows k)))

  pub no_rows_written : NumbersWritten (set (set (replicate 24 0) 0 s.period) 1 s.start) 2
  unfolding shown_numbers
  no_rows_written = filled_more (filled_more (filled_none 0 24 _ 0) (omega arith) refl) (omega arith) refl

  module _ {numbers : List ℕ} {k : ℕ} (so_far : NumbersWritten numbers (2 + 2 * k)) where
    pub row_more_written : k < 11 → let r = get_or s.rows k (row 0 0) in NumbersWritten (set (set numbers (2 + 2 * k) r.weight) (2 + 2 * k + 1) r.edge) (2 + 2 * (k + 1))
    row_more_written below =
        let next : 2 + 2 * (k + 1) ≡ 2 + 2 * k + 1 + 1 = omega arith in
        rw next (filled_more (filled_more so_far (omega arith) (weight_is k)) (omega arith) (edge_is k))

    pub rows_written : 11 ≤ k → length s.rows ≡ 11 → numbers ≡ shown_numbers s
    unfolding shown_numbers
    rows_written past eleven = filled_is so_far (omega arith) (shown_numbers s) (omega (arith, numbers_length s.rows)) (λ i below. refl)
