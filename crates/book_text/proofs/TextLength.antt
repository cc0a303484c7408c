-- How long the text of `book` can be: the header has 36 bytes, and each of at most 21,845 lines at most 23.
-- Assumes nothing.
use Rattle.std.specs.Prelude.{if◌then◌else◌}
use Prim.Native.Nat.{ℕ, suc, ◌+◌, ◌*◌, ◌/◌, ◌≤◌}
use native.Mathlib.Omega.{arith}
use mathlib.Core.Path.{◌≡◌, refl}
use mathlib.Core.Bool.{Bool, true, false}
use mathlib.Core.List.{List, [], ◌∷◌}
use lib.ListN.{length, length-append}
use Rattle.tree.specs.Tree.{nothing}
use Rattle.tree.specs.Shape.{Legal}
use Rattle.tree.specs.Calls.{Answer}
use Rattle.lists.specs.Lists.{orders_of, list_answers, length_refused}
use Rattle.lists.proofs.ListChecks.{fit_length}
use Rattle.lists.proofs.OrdersInTurn.{orders_counted}
use Rattle.book_text.specs.Ascii.{ascii}
use Rattle.book_text.specs.BookText.{header, list_line, order_lines, book_text}
use Rattle.book_text.specs.Writing.{longest_text}
use Rattle.book_text.proofs.Printable.{AllPrintable, all_printable}
use Rattle.book_text.proofs.OrderLine.{order_line_length}

pub header_length : length header ≡ 36
unfolding header ascii
header_length = refl

pub list_line_length : length list_line ≡ 7
unfolding list_line ascii
list_line_length = refl

order_lines_length : (number : ℕ) (ns : List ℕ) (answers : List Answer) → number + length ns ≤ 100000 → AllPrintable ns answers → length (order_lines number ns answers) ≤ 23 * length ns
unfolding AllPrintable order_lines
order_lines_length number [] answers few printable = omega arith
order_lines_length number (n ∷ ns) [] few printable = absurd printable
order_lines_length number (n ∷ ns) (a ∷ answers) few printable =
    let line = order_line_length number n a (omega arith) printable.0 in
    let rest = order_lines_length (suc number) ns answers (omega arith) printable.1 in
    rw length-append (omega arith)

pub book_text_length : (input : List ℕ) → length (book_text input) ≤ longest_text
unfolding book_text Legal
book_text_length input = rw (length-append, header_length) (by_length (length_refused (length input)) refl)
  where
    by_length : (b : Bool) → length_refused (length input) ≡ b → 36 + length (if b then list_line else order_lines 1 (orders_of input) (list_answers nothing (orders_of input))) ≤ longest_text
    by_length true e = rw list_line_length (omega arith)
    by_length false e =
        let fit = fit_length (length input) e in
        let counted = orders_counted (length input / 3) input (omega arith) in
        let lines = order_lines_length 1 (orders_of input) (list_answers nothing (orders_of input)) (omega arith) (all_printable nothing tt (orders_of input)) in
        omega arith
