-- What the record of a tree holds, by blocks: line L's block is its path as 11 rows. And when writing one line's path makes it.
-- Assumes nothing.
use Prim.Native.Nat.{ℕ, zero, suc, ◌*◌, ◌<◌}
use native.Mathlib.Omega.{arith}
use native.Mathlib.Decide.{ℕ_discrete}
use mathlib.Core.Path.{◌≡◌, refl, sym, ◌∙◌}
use mathlib.Core.Logic.{inl, inr}
use mathlib.Core.List.{List}
use lib.ListN.{length, length-append, replicate}
use Rattle.tree.specs.declared.Row.{Row}
use Rattle.tree.specs.Tree.{Tree, path_of, nothing, path}
use Rattle.tree.specs.Asking.{rows_11}
use Rattle.tree.specs.Record.{numbers, numbers_below, record_of}
use Rattle.paths.specs.Rules.{set_line}
use Rattle.tree.proofs.Searching.{last_or_below}
use Rattle.paths.proofs.Blocks.{block, block_of_path_length, block_at_end, block_of_front, set_line_length, block_set_line_same, block_set_line_other, rows_by_blocks}

numbers_below_length : (n : ℕ) (t : Tree) → length (numbers_below n t) ≡ 22 * n
unfolding numbers_below
numbers_below_length zero t = refl
numbers_below_length (suc n) t = simp length-append (omega (arith, numbers_below_length n t, block_of_path_length (path_of n t)))

block_of_numbers_below : (n : ℕ) (t : Tree) (L : ℕ) → L < n → block (numbers_below n t) L ≡ numbers (rows_11 (path_of L t))
unfolding numbers_below
block_of_numbers_below zero t L below = absurd (omega arith)
block_of_numbers_below (suc n) t L below =
    elim (last_or_below L n below) [
      | inl e ↦ rw e (block_at_end (numbers_below n t) _ n (numbers_below_length n t) (block_of_path_length (path_of n t)))
      | inr k ↦ block_of_front (numbers_below n t) _ L (omega (arith, numbers_below_length n t)) ∙ block_of_numbers_below n t L k
    ]

pub record_length : (t : Tree) → length (record_of t).rows ≡ 1408
unfolding record_of
record_length t = numbers_below_length 64 t

pub block_of_record : (t : Tree) (L : ℕ) → L < 64 → block (record_of t).rows L ≡ numbers (rows_11 (path_of L t))
unfolding record_of
block_of_record t L below = block_of_numbers_below 64 t L below

-- where line L's path is written, and every other line's block is that of its path in the tree, the record is the tree's
pub set_line_record : (start : List ℕ) (L : ℕ) (rs : List Row) (t : Tree) → L < 64 → length start ≡ 1408 → rs ≡ path_of L t →
    ((M : ℕ) → M < 64 → (M ≡ L → ⊥) → block start M ≡ numbers (rows_11 (path_of M t))) → set_line start L rs ≡ (record_of t).rows
set_line_record start L rs t below long new others =
    rows_by_blocks (set_line start L rs) (record_of t).rows (set_line_length start L rs below long) (record_length t) λ M M_below.
    each M M_below (ℕ_discrete M L) ∙ sym (block_of_record t M M_below)
  where
    each : (M : ℕ) → M < 64 → Dec (M ≡ L) → block (set_line start L rs) M ≡ numbers (rows_11 (path_of M t))
    each M M_below (yes same) = rw (same, ← new) (block_set_line_same start L rs below long)
    each M M_below (no other) = block_set_line_other start L M rs below other long ∙ others M M_below other

-- a record of zeros is that of the empty plan
pub zeros_are_empty : replicate 1408 0 ≡ (record_of nothing).rows
unfolding record_of numbers_below numbers rows_11 path_of path
zeros_are_empty = refl
