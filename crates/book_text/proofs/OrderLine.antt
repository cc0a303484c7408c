-- The line of an order: printed from the two answer bytes it is the line of the definition, and it has at most 23 bytes.
-- Assumes nothing.
use Prim.Native.Nat.{ℕ, ◌+◌, ◌*◌, ◌/◌, ◌%◌, ◌<◌, ◌≤◌}
use native.Mathlib.Omega.{arith}
use mathlib.Core.Path.{◌≡◌, ◌∙◌, ap, ap₂}
use mathlib.Core.List.{List, [], ◌∷◌}
use lib.ListN.{length, length-append}
use Rattle.tree.specs.Calls.{Answer, booked, done, refused}
use Rattle.bits.specs.Field.{field, joined}
use Rattle.orders.specs.Order.{kind, line, period, fields_of}
use Rattle.bits.proofs.FieldLaws.{field_below}
use Rattle.lists.specs.Lists.{result_field, start, answer_word, high_byte, low_byte}
use Rattle.book_text.specs.BookText.{decimal, text_line, start_word, order_line}
use Rattle.book_text.specs.Writing.{line_printed}
use Rattle.book_text.proofs.Decimal.{decimal_length}
use Rattle.book_text.proofs.Printable.{Printable}

-- The parts of the two bytes

module _ (k : ℕ) (a : Answer) (printable : Printable k a) where
  pub result_in_bytes : high_byte a / 16 ≡ result_field a
  unfolding high_byte answer_word field joined
  result_in_bytes = omega arith

  pub start_in_bytes : high_byte a % 16 * 256 + low_byte a ≡ start a
  unfolding high_byte low_byte answer_word field joined
  start_in_bytes = omega arith

-- The line

pub line_from_bytes : (number n high low : ℕ) (a : Answer) → Printable (kind n) a → high ≡ high_byte a → low ≡ low_byte a →
    line_printed number (fields_of n) (high / 16) (high % 16 * 256 + low) ≡ order_line number n a
unfolding line_printed fields_of order_line
line_from_bytes number n high low a printable high_is low_is =
    ap₂ (λ (x s : ℕ). line_printed number (fields_of n) x s) result_is start_is
    ∙ ap (λ (w : List ℕ). text_line (decimal number ∷ decimal (kind n) ∷ decimal (line n) ∷ decimal (period n) ∷ decimal (result_field a) ∷ w ∷ [])) printable.start_same
  where
    result_is : high / 16 ≡ result_field a
    result_is = ap (λ (x : ℕ). x / 16) high_is ∙ result_in_bytes (kind n) a printable

    start_is : high % 16 * 256 + low ≡ start a
    start_is = ap₂ (λ (x y : ℕ). x % 16 * 256 + y) high_is low_is ∙ start_in_bytes (kind n) a printable

start_word_length : (k : ℕ) (a : Answer) → Printable k a → length (start_word a) ≤ 4
unfolding start_word start
start_word_length k (booked s) printable = decimal_length 4 s (omega arith) (omega arith) (omega arith)
start_word_length k done printable = omega arith
start_word_length k (refused n) printable = omega arith

pub order_line_length : (number n : ℕ) (a : Answer) → number < 100000 → Printable (kind n) a → length (order_line number n a) ≤ 23
unfolding order_line text_line kind line period
order_line_length number n a few printable =
    let number_digits = decimal_length 5 number (omega arith) (omega arith) (omega arith) in
    let kind_digits = decimal_length 1 (kind n) (omega arith) (omega (arith, field_below 2 22 n)) (omega (arith, field_below 2 22 n)) in
    let line_digits = decimal_length 2 (line n) (omega arith) (omega (arith, field_below 6 16 n)) (omega (arith, field_below 6 16 n)) in
    let period_digits = decimal_length 4 (period n) (omega arith) (omega (arith, field_below 12 4 n)) (omega (arith, field_below 12 4 n)) in
    let result_digits = decimal_length 1 (result_field a) (omega arith) (omega (arith, printable.result_small)) (omega (arith, printable.result_small)) in
    let start_digits = start_word_length (kind n) a printable in
    simp length-append (omega arith)
