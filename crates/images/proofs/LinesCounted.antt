-- The lines of a legal record counted, and the bits of their image, one line after the other.
-- Assumes nothing.
use Prim.Native.Nat.{ℕ, suc, ◌+◌, ◌*◌, ◌<◌, ◌≤◌}
use native.Mathlib.Omega.{arith}
use native.Mathlib.Numerals.{add-one}
use mathlib.Core.Path.{◌≡◌, refl, sym, ◌∙◌}
use mathlib.Core.Bool.{true}
use mathlib.Core.List.{List, [], append-nil}
use lib.ListN.{length, length-append}
use Rattle.tree.specs.Record.{path_at, legal}
use Rattle.tree.specs.Image.{lines_bits}
use Rattle.bridge.specs.Rows.{tree_of_rows}
use Rattle.bridge.proofs.TreeOfRecord.{legal_on_record}
use Rattle.images.specs.declared.write.Size.{Size}
use Rattle.images.specs.Parts.{most_bits}
use Rattle.images.specs.Writing.{Counted}
use Rattle.images.proofs.ImageBits.{image_bits_length}
use Rattle.images.proofs.ImageLength.{image_bits_at_most}
use Rattle.images.proofs.LinesOfTree.{lines_at_most}
use Rattle.images.proofs.LinesWritten.{closed_line, open_line, open_line_length, lines, lines_with_next, length_with_next, length_grows}

pub none_counted : Counted [] (record { lines = 0; bits = 7 })
unfolding lines_bits
none_counted = record { lines_are = refl; bits_are = sym (image_bits_length []) }

module _ (rows : List ℕ) (is_legal : legal rows ≡ true) {n : ℕ} {size : Size} (counted : Counted (lines rows n) size) where
  -- `count` was read as the number of line n's rows
  module _ (below : n < 64) {count : ℕ} (read : count ≡ length (path_at rows n)) where
    pub counted_closed : count ≡ 0 → Counted (lines rows (n + 1)) size
    counted_closed none = rw (lines_with_next rows is_legal below, closed_line n (path_at rows n) (sym read ∙ none), append-nil) counted

    pub counted_open : (count ≡ 0 → ⊥) → Counted (lines rows (n + 1)) (record { lines = size.lines + 1; bits = size.bits + (10 + 24 * count) })
    counted_open some =
        let some_rows : length (path_at rows n) ≡ 0 → ⊥ = λ none. some (read ∙ none) in
        record {
          lines_are = rw (lines_with_next rows is_legal below, open_line n (path_at rows n) some_rows, length-append) (omega arith);
          bits_are =
              rw (add-one n)
              (omega (arith, image_bits_length (lines rows n), image_bits_length (lines rows (suc n)), length_with_next rows is_legal n below, open_line_length n (path_at rows n) some_rows));
        }

  pub counted_small : n ≤ 64 → (size.lines ≤ 64) × (size.bits ≤ most_bits)
  counted_small within =
      let all_lines = image_bits_at_most (tree_of_rows rows) (legal_on_record rows) in
      omega (arith, lines_at_most (tree_of_rows rows) n, image_bits_length (lines rows n), image_bits_length (lines rows 64), length_grows rows is_legal n 64 within (omega arith))
