-- A line's path and its block of the record, each from the other.
-- Assumes nothing.
use Prim.Native.Nat.{ℕ, ◌<◌}
use native.Mathlib.Omega.{arith}
use native.Mathlib.Decide.{dec_lt}
use mathlib.Core.Path.{◌≡◌, sym, ◌∙◌}
use mathlib.Core.Bool.{true, ◌||◌}
use mathlib.Core.List.{List}
use lib.Dec.{ltb}
use lib.ListN.{length}
use borrow.Author.Tests.{lt-ltb, le-ltb}
use Rattle.tree.specs.declared.Row.{Row}
use Rattle.tree.specs.Asking.{rows_11}
use Rattle.tree.specs.Record.{path_at, unused, rest_unused, numbers}
use Rattle.paths.specs.Rules.{row_of}
use Rattle.tree.proofs.Searching.{all_below_each}
use Rattle.paths.proofs.RowLaws.{row_in_numbers, same_by_rows, rows_11_row, row_beyond, line_row}
use Rattle.paths.proofs.Blocks.{block, block_length, block_of_path_length, row_at_in_block, row_at_of_block}
use Rattle.bridge.proofs.WrittenPaths.{Written, path_of_rows}

-- A path is read back from its block

pub path_of_block : (rows : List ℕ) (L : ℕ) (rs : List Row) → Written rs → block rows L ≡ numbers (rows_11 rs) → path_at rows L ≡ rs
path_of_block rows L rs written here = path_of_rows rows L rs written (row_at_of_block rows L rs here)

in_path_or_unused : (rs : List Row) (k : ℕ) → (ltb k (length rs) || unused (row_of k rs)) ≡ true
unfolding unused
in_path_or_unused rs k =
    elim (dec_lt k (length rs)) [
      | yes below ↦ rw (lt-ltb k (length rs) below)
      | no beyond ↦ rw (le-ltb k (length rs) (omega arith), row_beyond rs k (omega arith))
    ]

pub rest_unused_of_block : (rows : List ℕ) (L : ℕ) (rs : List Row) → Written rs → block rows L ≡ numbers (rows_11 rs) → rest_unused rows L ≡ true
unfolding rest_unused
rest_unused_of_block rows L rs written here =
    all_below_each 11 _ (λ k within. rw (path_of_block rows L rs written here, row_at_of_block rows L rs here k within) (in_path_or_unused rs k))

-- A line whose other rows are unused has the block of its path

pub block_of_path : (rows : List ℕ) (L : ℕ) → L < 64 → length rows ≡ 1408 → rest_unused rows L ≡ true → block rows L ≡ numbers (rows_11 (path_at rows L))
block_of_path rows L below size rest =
    same_by_rows 11 (block rows L) (numbers (rows_11 rs)) (block_length rows L below size) (block_of_path_length rs) λ k within.
    sym (row_at_in_block rows L k within) ∙ line_row rows L rest k within ∙ sym (rows_11_row rs k within) ∙ sym (row_in_numbers (rows_11 rs) k)
  where
    rs : List Row
    rs = path_at rows L
