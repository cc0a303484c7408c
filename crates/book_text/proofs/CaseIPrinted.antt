-- What `book` prints for case I, as document 02's Ask 8 has it, for an empty list and for one byte, by computation.
-- Assumes nothing.
use Prim.Native.Nat.{ℕ}
use mathlib.Core.Path.{◌≡◌, refl}
use mathlib.Core.List.{List, [], ◌∷◌, ◌++◌}
use Rattle.tree.specs.Numbers.{divides, euclid, gcd}
use Rattle.tree.specs.Search.{found, or_else, passing, first, smaller_by, smallest_by, smallest, some_below, all_below}
use Rattle.tree.specs.Tree.{present, product, sum_from, sum, path, is_open, path_of, period_of, start_of, at_digits, at, way_by_digits, way, step, weight_of}
use Rattle.tree.specs.Opening.{divisor, free, free_class, candidate, class_at, start_at, under, best, chosen, put, one_edge, group, split, newcomer, booking, book_by_digits, book_into, opened, start_in, start_given}
use Rattle.tree.specs.Closing.{prune, cleared, of_weight, weight_below, under_edge, joined_with, join, join_times, join_fully, joined_up, closed}
use Rattle.tree.specs.Refusals.{first_refusal, line_above_63, period_out_of_range, no_room, earlier_checks, open_refusal, line_refusal}
use Rattle.tree.specs.Calls.{refusal, reply, carried_out, answer_unless, tree_unless, answer, after, gives_unless, show_outcome, turns_outcome}
use Rattle.bits.specs.Field.{field, joined}
use Rattle.orders.specs.Order.{order_of, kind, line, period, filler}
use Rattle.orders.specs.Packing.{kind_above_1, close_with_period}
use Rattle.orders.specs.Reading.{filler_set, reading_refusal, call_of, reading}
use Rattle.lists.specs.Lists.{answer_read, after_read, order_answer, order_after, orders_of, list_answers, result_field, length_refused}
use Rattle.book_text.specs.Ascii.{ascii}
use Rattle.book_text.specs.BookText.{last_digits, decimal, text_line, header, list_line, start_word, order_line, order_lines, book_text}

abbrev case_i : List ℕ
case_i =
    0x01 ∷ 0x00 ∷ 0x60 ∷ 0x02 ∷ 0x00 ∷ 0x20 ∷ 0x03 ∷ 0x00 ∷ 0x30 ∷ 0x42 ∷ 0x00 ∷ 0x00 ∷ 0x03 ∷ 0x00 ∷ 0x30 ∷ 0x42 ∷ 0x00 ∷ 0x00 ∷ []

pub case_i_printed :
    book_text case_i
    ≡ (ascii "order kind line period result start\n"
    ++ (ascii "1 0 1 6 0 0\n"
    ++ (ascii "2 0 2 2 0 1\n"
    ++ (ascii "3 0 3 3 5 -\n"
    ++ (ascii "4 1 2 0 0 -\n"
    ++ (ascii "5 0 3 3 0 1\n"
    ++ (ascii "6 1 2 0 4 -\n")))))))
unfolding divides euclid gcd found or_else passing first smaller_by smallest_by smallest some_below all_below present product sum_from sum path is_open path_of period_of start_of at_digits at way_by_digits way step weight_of divisor free free_class candidate class_at start_at under best chosen put one_edge group split newcomer booking book_by_digits book_into opened start_in start_given prune cleared of_weight weight_below under_edge joined_with join join_times join_fully joined_up closed first_refusal line_above_63 period_out_of_range no_room earlier_checks open_refusal line_refusal refusal reply carried_out answer_unless tree_unless answer after gives_unless show_outcome turns_outcome order_of field joined kind line period filler kind_above_1 close_with_period filler_set reading_refusal call_of reading answer_read after_read order_answer order_after orders_of list_answers result_field length_refused last_digits decimal text_line ascii header list_line start_word order_line order_lines book_text
case_i_printed = refl

pub empty_list_printed : book_text [] ≡ ascii "order kind line period result start\n"
unfolding ascii text_line header length_refused orders_of list_answers order_lines book_text
empty_list_printed = refl

pub one_byte_printed : (byte : ℕ) → book_text (byte ∷ []) ≡ ascii "order kind line period result start\nlist 7\n"
unfolding ascii header list_line length_refused book_text
one_byte_printed byte = refl
