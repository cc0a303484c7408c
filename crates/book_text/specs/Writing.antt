-- What the functions of this crate promise of the lent text bytes.
-- Assumes nothing.
use Rattle.std.specs.Prelude.{ℕ, ◌+◌, ◌-◌, ◌*◌, ◌/◌, ◌%◌, ◌≤◌, ◌≡◌, ◌&&◌, List, [], ◌∷◌, ◌++◌, eqb, ltb, length, get_or, take, drop, if◌then◌else◌}
use Prim.Native.Char.{code}
use Rattle.tree.specs.Tree.{nothing}
use Rattle.orders.specs.Order.{order_of, fields_of}
use Rattle.orders.specs.declared.Bytes.{Bytes}
use Rattle.orders.specs.declared.OrderFields.{OrderFields}
use Rattle.lists.specs.Lists.{orders_of, list_answers, answer_bytes}
use Rattle.book_text.specs.declared.text.Text.{Text}
use Rattle.book_text.specs.BookText.{decimal, text_line, book_text}

-- the bytes of a text that are written
abbrev pub so_far : Text → List ℕ
so_far text = take text.place text.bytes.now

-- the lent bytes beyond them
abbrev pub beyond : Text → List ℕ
beyond text = drop text.place text.bytes.now

-- how many they are
abbrev pub room : Text → ℕ
room text = length text.bytes.now - text.place

-- Bytes were written after those so far, in the same lent bytes. What is beyond them is as found.
pub record Appended (before : Text) (bytes : List ℕ) (after : Text) : Type 0 where
  pub written : so_far after ≡ so_far before ++ bytes
  pub beyond_same : beyond after ≡ drop (length bytes) (beyond before)
  pub place_is : after.place ≡ before.place + length bytes
  pub length_same : length after.bytes.now ≡ length before.bytes.now
  pub same_lent : after.bytes.ghost_name ≡ before.bytes.ghost_name

-- the last word of a line, as the kind, the result and the start of the two answer bytes decide it
unfoldable pub start_printed : ℕ → ℕ → ℕ → List ℕ
start_printed kind result start = if eqb kind 0 && eqb result 0 then decimal start else (code "-" ∷ [])

-- the line of an order, from the code's fields
unfoldable pub line_printed : ℕ → OrderFields → ℕ → ℕ → List ℕ
line_printed number fields result start =
    text_line
    (decimal number ∷ decimal fields.kind ∷ decimal fields.line ∷ decimal fields.period.0 ∷ decimal result
    ∷ start_printed fields.kind result start ∷ [])

-- the line of an order, from its three bytes and the two bytes of its answer
abbrev pub order_printed : ℕ → List ℕ → List ℕ → List ℕ
order_printed number order answer =
    let bytes : Bytes = record { 0 = get_or order 0 0; 1 = get_or order 1 0; 2 = get_or order 2 0 } in
    let high = get_or answer 0 0 in
    line_printed number (fields_of (order_of bytes)) (high / 16) (high % 16 * 256 + get_or answer 1 0)

-- the answer bytes are those of the orders
pub record Answered (orders answers : List ℕ) : Type 0 where
  pub threes : length orders % 3 ≡ 0
  pub all_answered : 2 * (length orders / 3) ≤ length answers
  pub answers_are : take (2 * (length orders / 3)) answers ≡ answer_bytes (list_answers nothing (orders_of orders))

-- The header has 36 bytes, and each of at most 21,845 lines has at most 23: 5 digits of the order's number, 1 of the kind, 2 of the line,
-- 4 of the period, 1 of the result and 4 of the start, with a byte after each.
abbrev pub longest_text : ℕ
longest_text = 502471

-- The whole text was written at the start of the lent bytes, and the bytes beyond it are as found. Without room for the longest text
-- nothing was written, and the number answered is 0.
pub record BookWritten (input before after : List ℕ) (r : ℕ) : Type 0 where
  pub length_is : r ≡ (if ltb (length before) longest_text then 0 else length (book_text input))
  pub text_is : after ≡ (if ltb (length before) longest_text then before else (book_text input ++ drop (length (book_text input)) before))
