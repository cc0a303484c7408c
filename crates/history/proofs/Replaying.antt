-- Running a list of numbers call by call (specs/Replay.antt): no call, one more, owner and sheet after them, and a period above 4,095.
-- Assumes nothing.
use Rattle.std.specs.Prelude.{if◌then◌else◌}
use Prim.Native.Nat.{ℕ, zero, suc, ◌+◌, ◌<◌}
use native.Mathlib.Numerals.{add-one}
use native.Mathlib.Omega.{arith}
use mathlib.Core.Path.{◌≡◌, refl, sym, ◌∙◌, ap}
use mathlib.Core.List.{List, [], ◌∷◌, ◌++◌, append_assoc, map}
use lib.Dec.{ltb}
use lib.ListN.{length, drop, get_or, set, length-append}
use lib.Seq.{drop-cons, set_at}
use Rattle.std.proofs.lemmas.List.{map-append, length-map}
use Rattle.std.proofs.lemmas.List.Recursion.{same_from_clauses}
use Rattle.tree.specs.declared.Plan.{Plan}
use Rattle.tree.specs.declared.Sheet.{Sheet}
use Rattle.tree.specs.Calls.{Call, open_line, Answer, answer}
use Rattle.tree.specs.Asking.{owner_or_rest}
use Rattle.tree.specs.Sheet.{sheet}
use Rattle.tree.specs.Lists.{Entry, calls_of}
use Rattle.tree.specs.Record.{tree_of}
use Rattle.bridge.specs.Rows.{tree_of_rows, rows_after, CarriedOut}
use Rattle.bridge.proofs.PeriodAsked.{period_stands_for}
use Rattle.plan.specs.declared.ask.OwnerAnswer.{OwnerAnswer}
use Rattle.plan.specs.Ask.{owner_answer}
use Rattle.plan.specs.Meets.{Meets}
use Rattle.plan.proofs.Changes.{carried_meets}
use Rattle.history.specs.Ran.{handed_on, Ran, OwnerOfCalls, RestOfCalls}
use Rattle.history.specs.Replay.{call_at, first_calls, answer_number, answer_numbers, RanFirst, Replays, ReplaysAndOwns, ReplaysAndAddsUp}
use Rattle.history.specs.Sheets.{SheetOfCalls}
use Rattle.history.proofs.Demand3OfCalls.{returned_is_handed_on, owner_of_calls}
use Rattle.history.proofs.RestOfCalls.{rest_of_calls}
use Rattle.history.proofs.SheetOfCalls.{sheet_of_calls}

-- One call more

ran_more : (x : Entry) (xs : List Entry) (first last returned : Plan) → Ran first xs last → Meets x.call last x.answer returned → Ran first (xs ++ (x ∷ [])) returned
unfolding Ran
ran_more x [] first last returned ran meets =
    let here = rw ran at meets in
    (returned, here, sym (returned_is_handed_on x.call first x.answer returned here))
ran_more x (y ∷ ys) first last returned ran meets = (ran.0, ran.1, ran_more x ys (handed_on y.answer first ran.0) last returned ran.2 meets)

-- calls and numbers of a list, entry by entry

abbrev call_in : Entry → Call
call_in x = x.call

abbrev number_in : Entry → ℕ
number_in x = answer_number x.answer

calls_mapped : (xs : List Entry) → calls_of xs ≡ map call_in xs
unfolding calls_of
calls_mapped = same_from_clauses calls_of (map call_in) (λ x. ◌∷◌ x.call) refl (λ _ _. refl) (λ _ _. refl)

numbers_mapped : (xs : List Entry) → answer_numbers xs ≡ map number_in xs
unfolding answer_numbers
numbers_mapped = same_from_clauses answer_numbers (map number_in) (λ x. ◌∷◌ (answer_number x.answer)) refl (λ _ _. refl) (λ _ _. refl)

first_calls_length : (numbers : List ℕ) (n : ℕ) → length (first_calls numbers n) ≡ n
unfolding first_calls
first_calls_length numbers zero = refl
first_calls_length numbers (suc n) = omega (arith, length-append (first_calls numbers n) (call_at numbers n ∷ []), first_calls_length numbers n)

module _ (at_first : Plan) (numbers before : List ℕ) where
  pub no_call_run : RanFirst at_first numbers before before 0 at_first
  unfolding Ran calls_of first_calls answer_numbers
  no_call_run = record { entries = []; calls_are = refl; answers_are = refl; ran = refl }

  pub one_more_run : (after : List ℕ) (i : ℕ) (plan : Plan) (a : Answer) (next : Plan) →
      RanFirst at_first numbers before after i plan → i < length before → Meets (call_at numbers i) plan a next →
      RanFirst at_first numbers before (set after i (answer_number a)) (i + 1) next
  unfolding first_calls
  one_more_run after i plan a next so_far below meets =
      let xs = so_far.entries in
      let x : Entry = record { call = call_at numbers i; answer = a } in
      let calls = sym (calls_mapped xs) ∙ so_far.calls_are in
      let at_seam = length-map xs number_in ∙ sym (length-map xs call_in) ∙ ap length calls ∙ first_calls_length numbers i in
      record {
        entries = xs ++ (x ∷ []);
        calls_are = rw (add-one i, calls_mapped (xs ++ (x ∷ [])), map-append call_in xs (x ∷ []), calls);
        answers_are =
            rw (so_far.answers_are, numbers_mapped (xs ++ (x ∷ [])), map-append number_in xs (x ∷ []), numbers_mapped xs, drop-cons before i 0 below, add-one i)
            (set_at (map number_in xs) (get_or before i 0) (drop (suc i) before) (answer_number a) i at_seam
            ∙ sym (append_assoc (map number_in xs) (answer_number a ∷ []) (drop (suc i) before)));
        ran = ran_more x xs at_first plan next so_far.ran meets;
      }

-- The owner call and the sheet call on the plan that was left

module _ (numbers before after : List ℕ) (count : ℕ) (plan : Plan) (replays : Replays numbers before after count plan) where
  pub owner_after_replay : (round : ℕ) (a : OwnerAnswer) → owner_answer a ≡ owner_or_rest round (tree_of plan) → ReplaysAndOwns numbers before after round a
  unfolding OwnerOfCalls RestOfCalls
  owner_after_replay round a asked =
      record {
        count = count;
        plan = plan;
        replays = replays;
        names_owner = owner_of_calls replays.first.entries plan replays.first.ran round a asked;
        tells_rest = rest_of_calls replays.first.entries plan replays.first.ran round a asked;
      }

  pub sheet_after_replay : (a N : ℕ) (s : Sheet) → s ≡ sheet a N (tree_of plan) → ReplaysAndAddsUp numbers before after a N s
  unfolding SheetOfCalls
  sheet_after_replay a N s asked =
      record { count = count; plan = plan; replays = replays; sheet_for = sheet_of_calls replays.first.entries plan replays.first.ran a N s asked }

-- A period above 4,095

-- a call by value, said of the records' numbers
meets_carried : (c : Call) (plan : Plan) (a : Answer) (after : Plan) → Meets c plan a after → CarriedOut c plan.rows after.rows a
unfolding tree_of_rows
meets_carried c plan a after meets =
    let by_rules = carried_meets c plan (rows_after c plan.rows) (answer c (tree_of plan)) (record { answer_is = refl; rows_are = refl }) in
    record { answer_is = meets.answer_is; rows_are = ap (λ (x : Plan). x.rows) (meets.plan_is ∙ sym by_rules.plan_is) }

-- 4,096 stands for every period above 4,095
pub opened_as_asked : (L p : ℕ) (plan : Plan) (a : Answer) (after : Plan) →
    Meets (open_line L (if ltb 4095 p then 4096 else p)) plan a after → Meets (open_line L p) plan a after
opened_as_asked L p plan a after meets =
    carried_meets (open_line L p) plan after.rows a (period_stands_for L p plan.rows after.rows a (meets_carried _ plan a after meets))
