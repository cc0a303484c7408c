-- Case I as document 02's Ask 8 has it, without the printing: the answer bytes of its six orders, by computation.
-- Assumes nothing.
use Prim.Native.Nat.{ℕ}
use mathlib.Core.Path.{◌≡◌, refl}
use mathlib.Core.List.{List, [], ◌∷◌}
use Rattle.tree.specs.Numbers.{divides, euclid, gcd}
use Rattle.tree.specs.Search.{found, or_else, passing, first, smaller_by, smallest_by, smallest, some_below, all_below}
use Rattle.tree.specs.Tree.{nothing, present, product, sum_from, sum, path, is_open, path_of, period_of, start_of, at_digits, at, way_by_digits, way, step, weight_of}
use Rattle.tree.specs.Opening.{divisor, free, free_class, candidate, class_at, start_at, under, best, chosen, put, one_edge, group, split, newcomer, booking, book_by_digits, book_into, opened, start_in, start_given}
use Rattle.tree.specs.Closing.{prune, cleared, of_weight, weight_below, under_edge, joined_with, join, join_times, join_fully, joined_up, closed}
use Rattle.tree.specs.Refusals.{first_refusal, line_above_63, period_out_of_range, no_room, earlier_checks, open_refusal, line_refusal}
use Rattle.tree.specs.Calls.{refusal, reply, carried_out, answer_unless, tree_unless, answer, after, gives_unless, show_outcome, turns_outcome}
use Rattle.bits.specs.Field.{field, joined}
use Rattle.orders.specs.Order.{order_of, kind, line, period, filler}
use Rattle.orders.specs.Packing.{kind_above_1, close_with_period}
use Rattle.orders.specs.Reading.{filler_set, reading_refusal, call_of, reading}
use Rattle.lists.specs.Lists.{answer_read, after_read, order_answer, order_after, orders_of, list_answers, result_field, start, answer_word, high_byte, low_byte, answer_bytes}

abbrev case_i : List ℕ
case_i =
    0x01 ∷ 0x00 ∷ 0x60 ∷ 0x02 ∷ 0x00 ∷ 0x20 ∷ 0x03 ∷ 0x00 ∷ 0x30 ∷ 0x42 ∷ 0x00 ∷ 0x00 ∷ 0x03 ∷ 0x00 ∷ 0x30 ∷ 0x42 ∷ 0x00 ∷ 0x00 ∷ []

pub case_i_answers : answer_bytes (list_answers nothing (orders_of case_i)) ≡
    (0x00 ∷ 0x00 ∷ 0x00 ∷ 0x01 ∷ 0x50 ∷ 0x00 ∷ 0x00 ∷ 0x00 ∷ 0x00 ∷ 0x01 ∷ 0x40 ∷ 0x00 ∷ [])
unfolding divides euclid gcd found or_else passing first smaller_by smallest_by smallest some_below all_below present product sum_from sum path is_open path_of period_of start_of at_digits at way_by_digits way step weight_of divisor free free_class candidate class_at start_at under best chosen put one_edge group split newcomer booking book_by_digits book_into opened start_in start_given prune cleared of_weight weight_below under_edge joined_with join join_times join_fully joined_up closed first_refusal line_above_63 period_out_of_range no_room earlier_checks open_refusal line_refusal refusal reply carried_out answer_unless tree_unless answer after gives_unless show_outcome turns_outcome order_of field joined kind line period filler kind_above_1 close_with_period filler_set reading_refusal call_of reading answer_read after_read order_answer order_after orders_of list_answers result_field start answer_word high_byte low_byte answer_bytes
case_i_answers = refl
