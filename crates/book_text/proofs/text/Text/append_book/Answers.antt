-- `append_book` meets its contract: the header, and then the lines of all orders, or a refused list.
-- Assumes nothing.
use Rattle.std.proofs.Common.{arith, refl, ap, length, length-append}
use Rattle.book_text.specs.Ascii.{ascii}
use Rattle.book_text.specs.BookText.{header, list_line}
use Rattle.book_text.proofs.Appending.{appended_both}
use Rattle.book_text.proofs.TextLength.{header_length}
use Rattle.book_text.proofs.WholeText.{empty_plan, text_refused, text_of_orders, ran_answered, header_first}
use Rattle.book_text.proofs.text.Text.append_book.Goals as goal

pub append-requires : goal.append-requires
append-requires c = omega (arith, header_length, header_first c.args.input.now)

pub append_orders-requires-clause-has_room : goal.append_orders-requires-clause-has_room
append_orders-requires-clause-has_room c =
    let whole = text_of_orders _ _ _ _ _ refl _ c.run_list-ran.ensures c.in-Ok.is in
    omega (arith, header_length, simp length-append at (ap length whole))

pub append_orders-requires-clause-answered : goal.append_orders-requires-clause-answered
append_orders-requires-clause-answered c = ran_answered _ _ _ _ _ refl _ c.run_list-ran.ensures c.in-Ok.is empty_plan c.run_list-ran.auto.answers

pub append-requires-in-Err : goal.append-requires-in-Err
unfolding list_line ascii
append-requires-in-Err c =
    let whole = text_refused _ _ _ _ _ refl _ c.run_list-ran.ensures _ c.in-Err.is in
    omega (arith, header_length, simp length-append at (ap length whole))

pub returns-in-Ok : goal.returns-in-Ok
unfolding header ascii
returns-in-Ok c =
    rw (text_of_orders _ _ _ _ _ refl _ c.run_list-ran.ensures c.in-Ok.is) (appended_both _ _ c.append.ensures c.append_orders.ensures)

pub returns-in-Err : goal.returns-in-Err
unfolding header list_line ascii
returns-in-Err c =
    rw (text_refused _ _ _ _ _ refl _ c.run_list-ran.ensures _ c.in-Err.is) (appended_both _ _ c.append.ensures c.append-in-Err.ensures)
