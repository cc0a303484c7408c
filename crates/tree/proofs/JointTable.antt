-- The joint proof of the joint table (specs/Cases.antt): the definitions give every answer in it, by computation.
-- Assumes nothing.
use Prim.Native.Nat.{ℕ}
use mathlib.Core.Path.{◌≡◌, refl}
use mathlib.Core.List.{map}
use lib.ListN.{set}
use Rattle.tree.specs.Numbers.{divides, euclid, gcd}
use Rattle.tree.specs.Search.{found, or_else, passing, first, smaller_by, smallest_by, each_below, smallest, some_below, all_below, total_below, count_below}
use Rattle.tree.specs.Tree.{Tree, nothing, node, present, product, sum_from, sum, path, is_open, path_of, period_of, start_of, Place, at_digits, at, way_by_digits, way, step, weight_of, nodes}
use Rattle.tree.specs.Opening.{divisor, free, free_class, candidate, class_at, start_at, under, best, chosen, put, one_edge, group, split, newcomer, booking, book_by_digits, book_into, opened, start_in, start_given}
use Rattle.tree.specs.Closing.{prune, cleared, of_weight, weight_below, under_edge, joined_with, join, join_times, join_fully, joined_up, closed}
use Rattle.tree.specs.Asking.{owner, owned, rest, or_rest, owner_or_rest, rows_11, shown, is_line, owns, turns}
use Rattle.tree.specs.Sheet.{line_turns, idle_rounds, sheet}
use Rattle.tree.specs.Reason.{is_node, has_class, stands_in_class, line_in_class, reason}
use Rattle.tree.specs.Refusals.{first_refusal, line_above_63, period_out_of_range, no_room, earlier_checks, open_refusal, line_refusal, reason_refusal}
use Rattle.tree.specs.Calls.{refusal, reply, carried_out, answer_unless, tree_unless, answer, after, gives_unless, refusal_of, tree_given, show_outcome, turns_outcome, reason_outcome}
use Rattle.tree.specs.Trial.{is_split, split_in, trial, trial_outcome}
use Rattle.tree.specs.Record.{row_at, path_from, path_at, rows_in_range, alone, path_in_range, unused, rest_unused, parts, no_rows, together, legal, stand, grown, tree_of, numbers, numbers_below, record_of}
use Rattle.tree.specs.Bits.{field_bits, number_at, bytes_for, bytes_of, bits_of}
use Rattle.tree.specs.Image.{lines_below, path_bits, lines_bits, image_bits, image}
use Rattle.tree.specs.ImageReading.{and_then, read_field, read_row, read_path, read_line, read_lines, read_plan, rising, paths_in_range, parts_from, paths_part, legal_lines, with_lines, tree_of_lines, behind_refusal, read_outcome}
use Rattle.tree.specs.Weaving.{side, woven, open_in_both, doubled_out_of_range, weave_refusal, weave_outcome}
use Rattle.tree.specs.Cases.{answered, next, replayed, left_by, shows, fits, lists, cases, bookings_A, questions_A, case_A, case_B, case_C, case_D, case_E, case_F, case_G, case_H, case_I, earliest_start, split_keeps_starts, emptied_is_fresh, checks_in_sequence, turns_from_a_round, step_2047, tried_then_opened, two_edges_in_a_class, rests, sheets, reasons, nodes_joined, images, one_line, plans_woven}

-- what there is to compute with: to unfold this is to unfold each definition that the line names
computation : Unit {0}
unfolding divides euclid gcd found or_else passing weight_of first smaller_by smallest_by each_below smallest some_below present product sum_from sum path is_open path_of period_of start_of at_digits at way_by_digits way step divisor free free_class candidate class_at start_at under best chosen put one_edge group split newcomer booking book_by_digits book_into opened start_in start_given prune cleared of_weight weight_below under_edge joined_with join join_times join_fully joined_up closed owner owned rest or_rest owner_or_rest rows_11 shown is_line owns turns line_turns idle_rounds sheet first_refusal line_above_63 period_out_of_range no_room earlier_checks open_refusal line_refusal refusal reply carried_out answer_unless tree_unless answer after gives_unless refusal_of tree_given show_outcome turns_outcome answered next replayed shows fits lists cases bookings_A questions_A case_A case_B case_C case_D case_E case_F case_G case_H case_I earliest_start split_keeps_starts emptied_is_fresh checks_in_sequence turns_from_a_round step_2047 tried_then_opened two_edges_in_a_class rests sheets reasons nodes_joined images one_line plans_woven is_node has_class stands_in_class line_in_class reason reason_refusal reason_outcome nodes is_split split_in trial trial_outcome all_below total_below count_below left_by row_at path_from path_at rows_in_range alone path_in_range unused rest_unused parts no_rows together legal stand grown tree_of numbers numbers_below record_of field_bits number_at bytes_for bytes_of bits_of lines_below path_bits lines_bits image_bits image and_then read_field read_row read_path read_line read_lines read_plan rising paths_in_range parts_from paths_part legal_lines with_lines tree_of_lines behind_refusal read_outcome side woven open_in_both doubled_out_of_range weave_refusal weave_outcome
computation = tt

-- every case, replayed from the empty plan, gives the answers that the table has
pub joint_table : map (replayed nothing) cases ≡ cases
unfolding computation
joint_table = refl

-- case A's tree, written into a record and read back, gives the answers that the table has
pub record_of_A : replayed (tree_of (record_of (left_by nothing bookings_A))) questions_A ≡ questions_A
unfolding computation
record_of_A = refl

-- the same record with line 1's first edge equal to that row's weight is no tree
pub damaged_record_of_A : tree_of (record { rows = set (record_of (left_by nothing bookings_A)).rows 23 2 }) ≡ nothing
unfolding computation
damaged_record_of_A = refl

-- no number below 2,047 bounds the steps of all nodes: the node at level 1 and offset 0 has weight 2 and this step
pub step_2047_reached : let a : Place = record { level = 1; offset = 0 } in let t = left_by nothing step_2047 in (f : ℕ → Tree) × (at a t ≡ node 2 f) × (step a t ≡ 2047)
unfolding computation
step_2047_reached = (_, refl, refl)
