-- The numbers of a plan record by blocks of 22, a line's block its 11 rows: the rows in it, what set_line writes, and that the blocks are
-- the whole record.
-- Assumes nothing.
use Prim.Native.Nat.{ℕ, zero, suc, ◌+◌, ◌-◌, ◌*◌, ◌≤◌, ◌<◌}
use native.Mathlib.Omega.{arith}
use native.Mathlib.Nat.{mul-suc, add-sub_of_le, add_assoc}
use native.Mathlib.Decide.{dec_lt}
use mathlib.Core.Path.{◌≡◌, refl, sym, ap, ap₂, ◌∙◌}
use mathlib.Core.List.{List, ◌++◌, append_assoc}
use lib.ListN.{length, get_or, take, drop, length-append, length-drop, take-append-drop}
use lib.Seq.{length-take-le, take_all, take-append-le, drop-append-le, take_at, drop_at, drop-drop, take-add, get_or-take, get_or-drop}
use Rattle.tree.specs.declared.Row.{Row}
use Rattle.tree.specs.Asking.{rows_11}
use Rattle.tree.specs.Record.{row_at, numbers}
use Rattle.paths.specs.Rules.{row_of, set_line}
use Rattle.paths.proofs.RowLaws.{row_in, row_in_numbers, same_by_rows, numbers_length, rows_11_length, rows_11_row}

-- the 22 numbers of line L
unfoldable pub block : List ℕ → ℕ → List ℕ
block rows L = take 22 (drop (22 * L) rows)

pub block_length : (rows : List ℕ) (L : ℕ) → L < 64 → length rows ≡ 1408 → length (block rows L) ≡ 22
unfolding block
block_length rows L below size = length-take-le 22 (drop (22 * L) rows) (simp length-drop (omega arith))

pub block_of_path_length : (rs : List Row) → length (numbers (rows_11 rs)) ≡ 22
block_of_path_length rs = omega (arith, numbers_length (rows_11 rs), rows_11_length rs)

-- A line's rows are in its block

number_in_block : (rows : List ℕ) (L i : ℕ) → i < 22 → get_or (block rows L) i 0 ≡ get_or rows (22 * L + i) 0
unfolding block
number_in_block rows L i within = get_or-take 22 (drop (22 * L) rows) i 0 within ∙ get_or-drop (22 * L) rows i 0

pub row_at_in_block : (rows : List ℕ) (L k : ℕ) → k < 11 → row_at rows L k ≡ row_in (block rows L) k
unfolding row_at row_in
row_at_in_block rows L k within =
    cc (number_in_block rows L (2 * k) (omega arith), number_in_block rows L (2 * k + 1) (omega arith), add_assoc (22 * L) (2 * k) 1)

pub row_at_by_block : (a b : List ℕ) (L : ℕ) → block a L ≡ block b L → (k : ℕ) → k < 11 → row_at a L k ≡ row_at b L k
row_at_by_block a b L same k within =
    row_at_in_block a L k within ∙ ap (λ (x : List ℕ). row_in x k) same ∙ sym (row_at_in_block b L k within)

-- where the block is a path's, so are the rows
pub row_at_of_block : (rows : List ℕ) (L : ℕ) (rs : List Row) → block rows L ≡ numbers (rows_11 rs) → (k : ℕ) → k < 11 → row_at rows L k ≡ row_of k rs
row_at_of_block rows L rs here k within =
    row_at_in_block rows L k within ∙ ap (λ (b : List ℕ). row_in b k) here ∙ row_in_numbers (rows_11 rs) k ∙ rows_11_row rs k within

-- and the rows are the block
pub block_by_rows : (a b : List ℕ) (L : ℕ) → L < 64 → length a ≡ 1408 → length b ≡ 1408 → ((k : ℕ) → k < 11 → row_at a L k ≡ row_at b L k) → block a L ≡ block b L
block_by_rows a b L below long_a long_b same =
    same_by_rows 11 (block a L) (block b L) (block_length a L below long_a) (block_length b L below long_b)
    (λ k within. sym (row_at_in_block a L k within) ∙ same k within ∙ row_at_in_block b L k within)

-- Blocks of two lists joined

block_between : (xs b ys : List ℕ) (L : ℕ) → length xs ≡ 22 * L → length b ≡ 22 → block (xs ++ (b ++ ys)) L ≡ b
unfolding block
block_between xs b ys L here size = rw (drop_at xs (b ++ ys) (22 * L) here) (take_at b ys 22 size)

pub block_at_end : (xs b : List ℕ) (L : ℕ) → length xs ≡ 22 * L → length b ≡ 22 → block (xs ++ b) L ≡ b
unfolding block
block_at_end xs b L here size = rw (drop_at xs b (22 * L) here) (take_all 22 b (omega arith))

pub block_of_front : (xs ys : List ℕ) (M : ℕ) → 22 * M + 22 ≤ length xs → block (xs ++ ys) M ≡ block xs M
unfolding block
block_of_front xs ys M within =
    rw (drop-append-le (22 * M) xs ys (omega arith)) (take-append-le 22 (drop (22 * M) xs) ys (simp length-drop (omega arith)))

-- a block is found in the rest of the record from any place before it
block_of_rest : (xs ys : List ℕ) (n M : ℕ) → n ≤ 22 * M → drop n xs ≡ drop n ys → block xs M ≡ block ys M
unfolding block
block_of_rest xs ys n M before same = ap (take 22) (from xs ∙ ap (drop (22 * M - n)) same ∙ sym (from ys))
  where
    from : (zs : List ℕ) → drop (22 * M) zs ≡ drop (22 * M - n) (drop n zs)
    from zs = rw (drop-drop (22 * M - n) n zs, add-sub_of_le before)

-- What set_line writes

front_length : (rows : List ℕ) (L : ℕ) → L < 64 → length rows ≡ 1408 → length (take (22 * L) rows) ≡ 22 * L
front_length rows L below size = length-take-le (22 * L) rows (omega arith)

pub set_line_length : (rows : List ℕ) (L : ℕ) (rs : List Row) → L < 64 → length rows ≡ 1408 → length (set_line rows L rs) ≡ 1408
unfolding set_line
set_line_length rows L rs below size =
    simp (length-append, length-drop) (omega (arith, front_length rows L below size, block_of_path_length rs))

pub block_set_line_same : (rows : List ℕ) (L : ℕ) (rs : List Row) → L < 64 → length rows ≡ 1408 → block (set_line rows L rs) L ≡ numbers (rows_11 rs)
unfolding set_line
block_set_line_same rows L rs below size =
    block_between (take (22 * L) rows) (numbers (rows_11 rs)) _ L (front_length rows L below size) (block_of_path_length rs)

block_set_line_before : (rows : List ℕ) (L M : ℕ) (rs : List Row) → L < 64 → M < L → length rows ≡ 1408 → block (set_line rows L rs) M ≡ block rows M
unfolding set_line
block_set_line_before rows L M rs below before size =
    block_of_front (take (22 * L) rows) _ M within ∙ sym (rw take-append-drop at (block_of_front (take (22 * L) rows) (drop (22 * L) rows) M within))
  where
    within : 22 * M + 22 ≤ length (take (22 * L) rows)
    within = omega (arith, front_length rows L below size)

block_set_line_after : (rows : List ℕ) (L M : ℕ) (rs : List Row) → L < 64 → L < M → length rows ≡ 1408 → block (set_line rows L rs) M ≡ block rows M
unfolding set_line
block_set_line_after rows L M rs below after size = block_of_rest _ rows (22 * L + 22) M (omega arith) rest
  where
    rest : drop (22 * L + 22) (set_line rows L rs) ≡ drop (22 * L + 22) rows
    rest =
        rw (← append_assoc (take (22 * L) rows) (numbers (rows_11 rs)) (drop (22 * L + 22) rows))
        (drop_at (take (22 * L) rows ++ numbers (rows_11 rs)) _ (22 * L + 22) (simp length-append (omega (arith, front_length rows L below size, block_of_path_length rs))))

pub block_set_line_other : (rows : List ℕ) (L M : ℕ) (rs : List Row) → L < 64 → (M ≡ L → ⊥) → length rows ≡ 1408 → block (set_line rows L rs) M ≡ block rows M
block_set_line_other rows L M rs below other size =
    elim (dec_lt M L) [
      | yes h ↦ block_set_line_before rows L M rs below h size
      | no h ↦ block_set_line_after rows L M rs below (omega arith) size
    ]

-- The blocks are the whole record

fronts_by_blocks : (xs ys : List ℕ) → ((L : ℕ) → L < 64 → block xs L ≡ block ys L) → (n : ℕ) → n ≤ 64 → take (22 * n) xs ≡ take (22 * n) ys
unfolding block
fronts_by_blocks xs ys same zero within = refl
fronts_by_blocks xs ys same (suc n) within =
    rw (mul-suc 22 n, take-add (22 * n) 22 xs, take-add (22 * n) 22 ys)
    (ap₂ ◌++◌ (fronts_by_blocks xs ys same n (omega arith)) (same n within))

pub rows_by_blocks : (xs ys : List ℕ) → length xs ≡ 1408 → length ys ≡ 1408 → ((L : ℕ) → L < 64 → block xs L ≡ block ys L) → xs ≡ ys
rows_by_blocks xs ys long_xs long_ys same =
    sym (take_all 1408 xs (omega arith)) ∙ fronts_by_blocks xs ys same 64 (omega arith) ∙ take_all 1408 ys (omega arith)
