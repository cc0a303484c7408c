-- Laws of rows: as numbers and back, as the 11 rows of a line, and where a line's rows are those of its path.
-- Assumes nothing.
use Prim.Native.Nat.{ℕ, zero, suc, ◌+◌, ◌*◌, ◌≤◌, ◌<◌}
use native.Mathlib.Omega.{arith}
use native.Mathlib.Decide.{dec_lt}
use mathlib.Core.Path.{◌≡◌, refl, sym, ap, ap₂, ◌∙◌}
use mathlib.Core.Bool.{true, false, true≢false, false≢true, and-eq-true_iff}
use mathlib.Core.List.{List, [], ◌∷◌, ◌++◌}
use lib.Dec.{eqb}
use lib.ListN.{length, get_or, replicate, length-append, get_or-eq_default}
use lib.Seq.{length-take-le, get_or-take}
use borrow.Author.Tests.{eqb-true, le-ltb}
use Rattle.tree.specs.declared.Row.{Row}
use Rattle.tree.specs.Tree.{row}
use Rattle.tree.specs.Asking.{rows_11}
use Rattle.tree.specs.Record.{row_at, path_at, unused, rest_unused, no_rows, numbers}
use Rattle.tree.proofs.Searching.{all_below_at}
use Rattle.paths.specs.Rules.{row_of}
use Rattle.paths.proofs.PathRows.{row_in_path}
use Rattle.paths.proofs.UnusedRows.{row_right}

-- Rows or none

pub some_rows : (rs : List Row) → no_rows rs ≡ false → 0 < length rs
unfolding no_rows
some_rows [] h = absurd (true≢false h)
some_rows (r ∷ rs) h = omega arith

pub no_rows_empty : (rs : List Row) → no_rows rs ≡ true → rs ≡ []
unfolding no_rows
no_rows_empty [] h = refl
no_rows_empty (r ∷ rs) h = absurd (false≢true h)

-- Rows and the list of their numbers, each from the other

-- row k of the numbers of one line
unfoldable pub row_in : List ℕ → ℕ → Row
row_in b k = row (get_or b (2 * k) 0) (get_or b (2 * k + 1) 0)

row_in_later : (a b : ℕ) (xs : List ℕ) (k : ℕ) → row_in (a ∷ b ∷ xs) (suc k) ≡ row_in xs k
unfolding row_in
row_in_later a b xs k =
    let odd : 2 * suc k + 1 ≡ suc (suc (2 * k + 1)) = omega arith in
    let even : 2 * suc k ≡ suc (suc (2 * k)) = omega arith in
    rw (odd, even)

pub row_in_numbers : (qs : List Row) (k : ℕ) → row_in (numbers qs) k ≡ row_of k qs
unfolding numbers row_of row_in
row_in_numbers [] k = refl
row_in_numbers (q ∷ qs) zero = refl
row_in_numbers (q ∷ qs) (suc k) = row_in_later _ _ (numbers qs) k ∙ row_in_numbers qs k

pub numbers_length : (rs : List Row) → length (numbers rs) ≡ 2 * length rs
unfolding numbers
numbers_length [] = refl
numbers_length (r ∷ rs) = omega (arith, numbers_length rs)

-- the rows say all the numbers
pub same_by_rows : (n : ℕ) (xs ys : List ℕ) → length xs ≡ 2 * n → length ys ≡ 2 * n → ((k : ℕ) → k < n → row_in xs k ≡ row_in ys k) → xs ≡ ys
unfolding row_in
same_by_rows zero [] [] long_xs long_ys same = refl
same_by_rows (suc n) (a ∷ b ∷ xs) (c ∷ d ∷ ys) long_xs long_ys same =
    let here = same 0 (omega arith) in
    let weights : a ≡ c = ap (λ (r : Row). r.weight) here in
    let edges : b ≡ d = ap (λ (r : Row). r.edge) here in
    let rest = same_by_rows n xs ys (omega arith) (omega arith) (λ k below. sym (row_in_later a b xs k) ∙ same (suc k) (omega arith) ∙ row_in_later c d ys k) in
    cc
same_by_rows zero (a ∷ xs) ys long_xs long_ys same = absurd (omega arith)
same_by_rows zero [] (c ∷ ys) long_xs long_ys same = absurd (omega arith)
same_by_rows (suc n) [] ys long_xs long_ys same = absurd (omega arith)
same_by_rows (suc n) (a ∷ []) ys long_xs long_ys same = absurd (omega arith)
same_by_rows (suc n) (a ∷ b ∷ xs) [] long_xs long_ys same = absurd (omega arith)
same_by_rows (suc n) (a ∷ b ∷ xs) (c ∷ []) long_xs long_ys same = absurd (omega arith)

-- The 11 rows of a path

pub rows_11_length : (rs : List Row) → length (rows_11 rs) ≡ 11
unfolding rows_11
rows_11_length rs = length-take-le 11 (rs ++ replicate 11 (row 0 0)) (simp length-append (omega arith))

pub row_beyond : (rs : List Row) (k : ℕ) → length rs ≤ k → row_of k rs ≡ row 0 0
unfolding row_of
row_beyond rs k beyond = get_or-eq_default rs (row 0 0) beyond

-- rows that are not used are 0 and 0
unused_after : (rs : List Row) (n k : ℕ) → row_of k (rs ++ replicate n (row 0 0)) ≡ row_of k rs
unfolding row_of
unused_after [] zero k = refl
unused_after [] (suc n) zero = refl
unused_after [] (suc n) (suc k) = unused_after [] n k
unused_after (r ∷ rs) n zero = refl
unused_after (r ∷ rs) n (suc k) = unused_after rs n k

pub rows_11_row : (rs : List Row) (k : ℕ) → k < 11 → row_of k (rows_11 rs) ≡ row_of k rs
unfolding rows_11 row_of
rows_11_row rs k within = get_or-take 11 (rs ++ replicate 11 (row 0 0)) k (row 0 0) within ∙ unused_after rs 11 k

-- The rows of a line

unused_row : (r : Row) → unused r ≡ true → r ≡ row 0 0
unfolding unused
unused_row r h =
    let both = (and-eq-true_iff (eqb r.weight 0) (eqb r.edge 0)).0 h in
    ap₂ row (eqb-true _ _ both.0) (eqb-true _ _ both.1)

-- where the rest is unused, the line's rows are the path's and then unused ones
pub line_row : (rows : List ℕ) (L : ℕ) → rest_unused rows L ≡ true → (k : ℕ) → k < 11 → row_at rows L k ≡ row_of k (path_at rows L)
unfolding rest_unused
line_row rows L rest k within =
    elim (dec_lt k (length (path_at rows L))) [
      | yes below ↦ sym (row_in_path rows L below)
      | no past ↦
          let right = all_below_at 11 (row_right rows L) rest k within in
          unused_row (row_at rows L k) (rw (le-ltb k (length (path_at rows L)) (omega arith)) at right)
          ∙ sym (row_beyond (path_at rows L) k (omega arith))
    ]
