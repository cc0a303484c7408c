-- The loop over the orders. Its invariant (`Printing`): what was written and the lines of the orders that are left make up all lines.
-- Assumes nothing.
use Prim.Native.Nat.{ℕ, zero, suc, ◌+◌, ◌*◌, ◌/◌, ◌<◌, ◌≤◌}
use native.Mathlib.Omega.{arith}
use native.Mathlib.Numerals.{add-one}
use Rattle.std.proofs.Common.{add-zero}
use mathlib.Core.Path.{◌≡◌, refl, sym, ◌∙◌, ap, ap₂}
use mathlib.Core.List.{List, [], ◌∷◌, ◌++◌, append-nil, append_assoc}
use lib.ListN.{length, get_or, take, drop, length-append, drop_of_length-le}
use lib.Seq.{drop-drop, get_or-drop, get_or-take}
use Rattle.std.specs.Simd.{first_chunks}
use Rattle.tree.specs.Tree.{nothing}
use Rattle.tree.specs.Shape.{Legal}
use Rattle.tree.specs.Calls.{Answer}
use Rattle.orders.specs.Order.{order_of, kind}
use Rattle.lists.specs.Lists.{orders_of, list_answers, high_byte, low_byte, answer_bytes}
use Rattle.lists.proofs.OrdersInTurn.{next_order}
use Rattle.book_text.specs.declared.text.Text.{Text}
use Rattle.book_text.specs.BookText.{order_line, order_lines}
use Rattle.book_text.specs.Writing.{room, Appended, order_printed, Answered}
use Rattle.book_text.proofs.Appending.{appended_nothing, appended_both}
use Rattle.book_text.proofs.Printable.{Printable, AllPrintable, all_printable}
use Rattle.book_text.proofs.OrderLine.{line_from_bytes}

-- byte i of piece k, of the pieces that have so many bytes each
byte_of_piece : (size count : ℕ) (bytes : List ℕ) (k i : ℕ) → k < count → i < size → get_or (get_or (first_chunks size count bytes) k []) i 0 ≡ get_or bytes (size * k + i) 0
byte_of_piece size zero bytes k i inside small = absurd (omega arith)
byte_of_piece size (suc count) bytes zero i inside small = get_or-take size bytes i 0 small ∙ ap (λ (n : ℕ). get_or bytes n 0) (omega arith)
byte_of_piece size (suc count) bytes (suc k) i inside small =
    byte_of_piece size count (drop size bytes) k i (omega arith) small ∙ get_or-drop size bytes (size * k + i) 0 ∙ ap (λ (n : ℕ). get_or bytes n 0) (omega arith)

-- order k of the bytes, and the orders from k on
abbrev order_at : List ℕ → ℕ → ℕ
order_at bytes k = order_of (record { 0 = get_or bytes (3 * k) 0; 1 = get_or bytes (3 * k + 1) 0; 2 = get_or bytes (3 * k + 2) 0 })

abbrev orders_from : List ℕ → ℕ → List ℕ
orders_from bytes k = orders_of (drop (3 * k) bytes)

-- all lines
abbrev all_lines : List ℕ → List ℕ
all_lines orders = order_lines 1 (orders_of orders) (list_answers nothing (orders_of orders))

-- The first of the answers that are left

record Next (n : ℕ) (ns : List ℕ) (left : List Answer) : Type 0 where
  first : Answer
  rest : List Answer
  left_is : left ≡ first ∷ rest
  printable : Printable (kind n) first
  rest_printable : AllPrintable ns rest

next_answer : (n : ℕ) (ns : List ℕ) (left : List Answer) → AllPrintable (n ∷ ns) left → Next n ns left
unfolding AllPrintable
next_answer n ns [] printable = absurd printable
next_answer n ns (a ∷ rest) printable = record { first = a; rest = rest; left_is = refl; printable = printable.0; rest_printable = printable.1 }

pub record Printing (start : Text) (orders answers : List ℕ) (text : Text) (k : ℕ) : Type 0 where
  pub lines : List ℕ
  pub so_far : Appended start lines text
  pub left : List Answer
  pub left_bytes : drop (2 * k) (take (2 * (length orders / 3)) answers) ≡ answer_bytes left
  pub left_printable : AllPrintable (orders_from orders k) left
  pub all_same : lines ++ order_lines (k + 1) (orders_from orders k) left ≡ all_lines orders

module _ (start : Text) (orders answers : List ℕ) (ready : Answered orders answers) where
  pub printing_none : Printing start orders answers start 0
  unfolding Legal
  printing_none =
      record {
        lines = [];
        so_far = appended_nothing start;
        left = list_answers nothing (orders_of orders);
        left_bytes = ready.answers_are;
        left_printable = all_printable nothing tt (orders_of orders);
        all_same = refl;
      }

  module _ (text : Text) (k : ℕ) (printing : Printing start orders answers text k) where
    pub printing_all : length orders / 3 ≤ k → Appended start (all_lines orders) text
    unfolding orders_of order_lines
    printing_all done = rw (sym (rw none_left at printing.all_same), append-nil) printing.so_far
      where
        none_left : orders_from orders k ≡ []
        none_left = ap orders_of (drop_of_length-le orders {i = 3 * k} (omega (arith, ready.threes)))

    module _ (below : k < length orders / 3) where
      next_orders : orders_from orders k ≡ order_at orders k ∷ orders_from orders (k + 1)
      next_orders = next_order orders k (omega (arith, ready.threes))

      next : Next (order_at orders k) (orders_from orders (k + 1)) printing.left
      next = next_answer _ _ _ (rw next_orders at printing.left_printable)

      abbrev line : List ℕ
      line = order_line (k + 1) (order_at orders k) next.first

      next_bytes : drop (2 * k) (take (2 * (length orders / 3)) answers) ≡ high_byte next.first ∷ low_byte next.first ∷ answer_bytes next.rest
      unfolding answer_bytes
      next_bytes = printing.left_bytes ∙ ap answer_bytes next.left_is

      byte_at : (i : ℕ) → i < 2 → get_or answers (2 * k + i) 0 ≡ get_or (high_byte next.first ∷ low_byte next.first ∷ answer_bytes next.rest) i 0
      byte_at i small =
          sym (get_or-take (2 * (length orders / 3)) answers (2 * k + i) 0 (omega arith)) ∙ sym (get_or-drop (2 * k) (take (2 * (length orders / 3)) answers) i 0)
          ∙ ap (λ (bytes : List ℕ). get_or bytes i 0) next_bytes

      abbrev line_of_pieces : List ℕ
      line_of_pieces = order_printed (k + 1) (get_or (first_chunks 3 (length orders / 3) orders) k []) (get_or (first_chunks 2 (length answers / 2) answers) k [])

      line_is : line_of_pieces ≡ line
      line_is =
          let first = byte_of_piece 3 (length orders / 3) orders k 0 below (omega arith) ∙ ap (λ (n : ℕ). get_or orders n 0) (add-zero (3 * k)) in
          let second = byte_of_piece 3 (length orders / 3) orders k 1 below (omega arith) in
          let third = byte_of_piece 3 (length orders / 3) orders k 2 below (omega arith) in
          let high = byte_of_piece 2 (length answers / 2) answers k 0 (omega (arith, ready.all_answered)) (omega arith) ∙ byte_at 0 (omega arith) in
          let low = byte_of_piece 2 (length answers / 2) answers k 1 (omega (arith, ready.all_answered)) (omega arith) ∙ byte_at 1 (omega arith) in
          rw (first, second, third) (line_from_bytes (k + 1) (order_at orders k) _ _ next.first next.printable high low)

      all_parts : printing.lines ++ (line ++ order_lines (k + 1 + 1) (orders_from orders (k + 1)) next.rest) ≡ all_lines orders
      unfolding order_lines
      all_parts =
          ap (λ (n : ℕ). printing.lines ++ (line ++ order_lines n (orders_from orders (k + 1)) next.rest)) (add-one (k + 1))
          ∙ sym (ap₂ (λ (ns : List ℕ) (xs : List Answer). printing.lines ++ order_lines (k + 1) ns xs) next_orders next.left_is)
          ∙ printing.all_same

      pub next_fits : length (all_lines orders) ≤ room start → length line_of_pieces ≤ room text
      next_fits fits = rw line_is (omega (arith, simp length-append at (ap length all_parts), printing.so_far.place_is, printing.so_far.length_same))

      pub printing_more : (text' : Text) → Appended text line_of_pieces text' → Printing start orders answers text' (k + 1)
      printing_more text' written =
          record {
            lines = printing.lines ++ line;
            so_far = appended_both printing.lines line printing.so_far (rw line_is at written);
            left = next.rest;
            left_bytes = ap (λ (n : ℕ). drop n (take (2 * (length orders / 3)) answers)) two_on ∙ sym (drop-drop 2 (2 * k) (take (2 * (length orders / 3)) answers)) ∙ ap (drop 2) next_bytes;
            left_printable = next.rest_printable;
            all_same = append_assoc printing.lines line _ ∙ all_parts;
          }
        where
          two_on : 2 * (k + 1) ≡ 2 * k + 2
          two_on = omega arith
