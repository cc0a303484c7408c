-- What writing one row changes in a record.
-- Assumes nothing.
use Prim.Native.Nat.{ℕ, ◌+◌, ◌*◌, ◌<◌}
use native.Mathlib.Omega.{arith}
use mathlib.Core.Path.{◌≡◌, ◌∙◌, ap₂}
use mathlib.Core.List.{List}
use lib.ListN.{length, get_or, set, length-set}
use lib.Seq.{get_or-set_same, get_or-set_other}
use Rattle.tree.specs.declared.Row.{Row}
use Rattle.tree.specs.Tree.{row}
use Rattle.tree.specs.Record.{row_at}
use Rattle.booking.specs.Writing.{set_row}

-- row k of line L is written
module _ (rows : List ℕ) (L k : ℕ) (r : Row) where
  pub set_row_size : length (set_row rows L k r) ≡ length rows
  unfolding set_row
  set_row_size = simp length-set

  pub set_row_here : length rows ≡ 1408 → L < 64 → k < 11 → row_at (set_row rows L k r) L k ≡ r
  unfolding set_row row_at
  set_row_here size below within =
      let at = 22 * L + 2 * k in
      let weight_written = set rows at r.weight in
      ap₂
      row
      (get_or-set_other weight_written (at + 1) at r.edge 0 (λ e. omega arith) ∙ get_or-set_same rows at r.weight 0 (omega arith))
      (get_or-set_same weight_written (at + 1) r.edge 0 (omega (arith, length-set rows at r.weight)))

  number_kept : (j : ℕ) → (j ≡ 22 * L + 2 * k → ⊥) → (j ≡ 22 * L + 2 * k + 1 → ⊥) → get_or (set_row rows L k r) j 0 ≡ get_or rows j 0
  unfolding set_row
  number_kept j no_weight no_edge =
      let at = 22 * L + 2 * k in
      get_or-set_other (set rows at r.weight) (at + 1) j r.edge 0 no_edge ∙ get_or-set_other rows at j r.weight 0 no_weight

  row_kept : (M j : ℕ) → (22 * M + 2 * j ≡ 22 * L + 2 * k → ⊥) → row_at (set_row rows L k r) M j ≡ row_at rows M j
  unfolding row_at
  row_kept M j apart =
      ap₂
      row
      (number_kept (22 * M + 2 * j) apart (λ e. omega arith))
      (number_kept (22 * M + 2 * j + 1) (λ e. omega arith) (λ e. apart (omega arith)))

  pub set_row_other_line : (M j : ℕ) → (M ≡ L → ⊥) → k < 11 → j < 11 → row_at (set_row rows L k r) M j ≡ row_at rows M j
  set_row_other_line M j other k_below j_below = row_kept M j (λ e. other (omega arith))

  pub set_row_other_row : (j : ℕ) → (j ≡ k → ⊥) → row_at (set_row rows L k r) L j ≡ row_at rows L j
  set_row_other_row j other = row_kept L j (λ e. other (omega arith))
