-- The rows of a record with one line's rows replaced (`set_line`, crate paths, specs/Rules.antt): that line's are the path's and then unused ones, the others' are as they were.
-- Assumes nothing.
use Prim.Native.Nat.{ℕ, ◌<◌}
use native.Mathlib.Omega.{arith}
use native.Mathlib.Decide.{ℕ_discrete, dec_lt}
use mathlib.Core.Path.{◌≡◌, sym, ◌∙◌}
use mathlib.Core.List.{List, [], ◌∷◌, ◌++◌}
use lib.ListN.{length, length-append, get_or-append}
use Rattle.std.proofs.lemmas.List.{get_or_push}
use Rattle.tree.specs.declared.Row.{Row}
use Rattle.tree.specs.Tree.{row}
use Rattle.tree.specs.Record.{row_at}
use Rattle.paths.specs.Rules.{row_of, set_line}
use Rattle.paths.proofs.Blocks.{row_at_by_block, row_at_of_block, block_by_rows, rows_by_blocks, set_line_length, block_set_line_same, block_set_line_other}
use Rattle.paths.proofs.RowLaws.{row_beyond}
use Rattle.booking.specs.Writing.{set_row}
use Rattle.booking.proofs.RecordRows.{set_row_size, set_row_here, set_row_other_line, set_row_other_row}

module _ (rows : List ℕ) (size : length rows ≡ 1408) (L : ℕ) (below : L < 64) (rs : List Row) where
  pub set_line_row : (k : ℕ) → k < 11 → row_at (set_line rows L rs) L k ≡ row_of k rs
  set_line_row = row_at_of_block (set_line rows L rs) L rs (block_set_line_same rows L rs below size)

  pub set_line_other : (M k : ℕ) → (M ≡ L → ⊥) → k < 11 → row_at (set_line rows L rs) M k ≡ row_at rows M k
  set_line_other M k other = row_at_by_block (set_line rows L rs) rows M (block_set_line_other rows L M rs below other size) k

  -- a record with these rows is that record
  pub is_set_line : (new : List ℕ) → length new ≡ 1408 → ((k : ℕ) → k < 11 → row_at new L k ≡ row_of k rs) → ((M k : ℕ) → (M ≡ L → ⊥) → k < 11 → row_at new M k ≡ row_at rows M k) → new ≡ set_line rows L rs
  is_set_line new new_size here others =
      let set_size = set_line_length rows L rs below size in
      rows_by_blocks new (set_line rows L rs) new_size set_size (λ M M_below. block_by_rows new (set_line rows L rs) M M_below new_size set_size (λ k within. go M k within (ℕ_discrete M L)))
    where
      go : (M k : ℕ) → k < 11 → Dec (M ≡ L) → row_at new M k ≡ row_at (set_line rows L rs) M k
      go M k h (yes e) = rw e (here k h ∙ sym (set_line_row k h))
      go M k h (no other) = others M k other h ∙ sym (set_line_other M k other h)

-- a row written after the line's path is one more row of it
module _ (rows : List ℕ) (size : length rows ≡ 1408) (L : ℕ) (below : L < 64) (rs : List Row) (k : ℕ) (end : length rs ≡ k) (within : k < 11) (r : Row) where
  row_added : (j : ℕ) → j < 11 → Dec (j < k) → Dec (j ≡ k) → row_at (set_row (set_line rows L rs) L k r) L j ≡ row_of j (rs ++ (r ∷ []))
  unfolding row_of
  row_added j h (yes before) d =
      set_row_other_row _ L k r j (λ e. omega arith) ∙ set_line_row rows size L below rs j h ∙ sym (get_or-append rs (r ∷ []) (row 0 0) j (omega arith))
  row_added j h (no past) (yes e) = rw e (set_row_here _ L k r (set_line_length rows L rs below size) below within ∙ sym (get_or_push rs r (row 0 0) k end))
  row_added j h (no past) (no other) =
      set_row_other_row _ L k r j other ∙ set_line_row rows size L below rs j h
      ∙ row_beyond rs j (omega arith) ∙ sym (row_beyond (rs ++ (r ∷ [])) j (simp length-append (omega arith)))

  pub set_line_added : set_row (set_line rows L rs) L k r ≡ set_line rows L (rs ++ (r ∷ []))
  set_line_added =
      is_set_line rows size L below (rs ++ (r ∷ [])) _ (set_row_size _ L k r ∙ set_line_length rows L rs below size)
      (λ j h. row_added j h (dec_lt j k) (ℕ_discrete j k))
      (λ M j other h. set_row_other_line _ L k r M j other within h ∙ set_line_other rows size L below rs M j other h)
