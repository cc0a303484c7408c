-- The whole text: what running the list tells of its answers, and the header with what follows it.
-- Assumes nothing.
use Rattle.std.specs.Prelude.{if◌then◌else◌, Option, None, Some, Result, Ok, Err}
use Prim.Native.Nat.{ℕ, ◌*◌, ◌/◌, ◌%◌, ◌≤◌}
use native.Mathlib.Omega.{arith}
use mathlib.Core.Path.{◌≡◌, refl, sym, ◌∙◌, ap}
use mathlib.Core.Bool.{Bool, true, false}
use mathlib.Core.List.{List, [], ◌∷◌, ◌++◌}
use lib.ListN.{length, take, drop, replicate, length-append}
use lib.Seq.{take-append_seam, take_at}
use lib.Dec.{ltb}
use borrow.Author.Tests.{le-ltb}
use Rattle.tree.specs.declared.Plan.{Plan}
use Rattle.tree.specs.Tree.{Tree, nothing, path, path_of}
use Rattle.tree.specs.Asking.{rows_11}
use Rattle.tree.specs.Record.{tree_of, record_of, numbers, numbers_below}
use Rattle.bridge.specs.Rows.{tree_of_rows}
use Rattle.bridge.proofs.CarriedLegal.{empty_recorded}
use Rattle.lists.specs.Lists.{orders_of, order_after, list_answers, answer_bytes, length_refused, room_refused, list_refusal}
use Rattle.tree.specs.declared.refusal.Refusal.{Refusal}
use Rattle.tree.specs.Answered.{number_of, refusal_in}
use Rattle.lists.specs.Runs.{bytes_after, bytes_after_list, ListRan}
use Rattle.lists.proofs.ListChecks.{fit_length, unfit_length, checks_passed}
use Rattle.lists.proofs.OrdersInTurn.{orders_counted}
use Rattle.book_text.specs.BookText.{header, list_line, order_lines, book_text}
use Rattle.book_text.specs.Writing.{longest_text, Answered, BookWritten}

-- The list on the empty plan

pub empty_plan : tree_of (record { rows = replicate 1408 0 }) ≡ nothing
unfolding tree_of_rows record_of numbers_below numbers rows_11 path_of path
empty_plan = empty_recorded.tree_is

answered_length : (t : Tree) (ns : List ℕ) → length (answer_bytes (list_answers t ns)) ≡ 2 * length ns
unfolding list_answers answer_bytes
answered_length t [] = refl
answered_length t (n ∷ ns) = let rest = answered_length (order_after n t) ns in omega arith

-- with room for 21,845 answers a list is refused by its length or not at all
refused_by_length : (n : ℕ) → (b : Bool) → length_refused n ≡ b → list_refusal n 43690 ≡ (if b then Some 7 else None)
unfolding room_refused
refused_by_length n true e = unfit_length n 43690 e
refused_by_length n false e =
    let fit = fit_length n e in
    checks_passed n 43690 e (le-ltb 43690 (2 * (n / 3)) (omega arith))

module _ (plan : Plan) (input lent : List ℕ) (after : Plan) (answers : List ℕ) (room : 43690 ≡ length lent) where
  refusal_here : (o : Option ℕ) → ListRan plan input lent o after answers → (b : Bool) → length_refused (length input) ≡ b → o ≡ (if b then Some 7 else None)
  refusal_here o ran b e = ran.refusal_is ∙ ap (list_refusal (length input)) (sym room) ∙ refused_by_length (length input) b e

  ran_refused : (m : ℕ) → ListRan plan input lent (Some m) after answers → length_refused (length input) ≡ true
  ran_refused m ran = by_length (length_refused (length input)) refl
    where
      by_length : (b : Bool) → length_refused (length input) ≡ b → b ≡ true
      by_length true e = refl
      by_length false e = let none_is : Some m ≡ None = refusal_here (Some m) ran false e in cc

  ran_done : ListRan plan input lent None after answers → length_refused (length input) ≡ false
  ran_done ran = by_length (length_refused (length input)) refl
    where
      by_length : (b : Bool) → length_refused (length input) ≡ b → b ≡ false
      by_length false e = refl
      by_length true e = let some_is : ◌≡◌ {A = Option ℕ} None (Some 7) = refusal_here None ran true e in cc

  done_answered : tree_of plan ≡ nothing → ListRan plan input lent None after answers → length answers ≡ length lent → Answered input answers
  unfolding bytes_after_list bytes_after
  done_answered empty ran same =
      let fit = fit_length (length input) (ran_done ran) in
      record {
        threes = fit.threes;
        all_answered = omega arith;
        answers_are =
            ap (take (2 * (length input / 3))) (ran.bytes_are ∙ ap (λ (o : Option ℕ). bytes_after_list o plan input lent) (sym ran.refusal_is))
            ∙ take_at (answer_bytes (list_answers (tree_of plan) (orders_of input))) _ (2 * (length input / 3)) (counted fit.threes)
            ∙ ap (λ (t : Tree). answer_bytes (list_answers t (orders_of input))) empty;
      }
    where
      counted : length input % 3 ≡ 0 → length (answer_bytes (list_answers (tree_of plan) (orders_of input))) ≡ 2 * (length input / 3)
      counted threes =
          answered_length (tree_of plan) (orders_of input) ∙ ap (λ (n : ℕ). 2 * n) (orders_counted (length input / 3) input (omega arith))

  -- What running the list tells of the text, and of the answer bytes, by its answer

  module _ (answer : Result Unit Refusal) (ran : ListRan plan input lent (refusal_in answer) after answers) where
    pub text_refused : (r : Refusal) → answer ≡ Err r → book_text input ≡ header ++ list_line
    unfolding refusal_in book_text
    text_refused r refused = rw (ran_refused (number_of r) (rw (ap refusal_in refused) at ran))

    pub text_of_orders : answer ≡ Ok tt → book_text input ≡ header ++ order_lines 1 (orders_of input) (list_answers nothing (orders_of input))
    unfolding refusal_in book_text
    text_of_orders done = rw (ran_done (rw (ap refusal_in done) at ran))

    pub ran_answered : answer ≡ Ok tt → tree_of plan ≡ nothing → length answers ≡ length lent → Answered input answers
    unfolding refusal_in
    ran_answered done empty same = done_answered empty (rw (ap refusal_in done) at ran) same

pub header_first : (input : List ℕ) → length header ≤ length (book_text input)
unfolding book_text
header_first input = rw length-append (omega arith)

-- What was written is within the lent bytes, and with room for the longest text it is the whole text.

module _ (input before after : List ℕ) (r : ℕ) (done : BookWritten input before after r) where
  pub within_text : r ≤ length after
  within_text = rw (done.length_is, done.text_is) (by_room (ltb (length before) longest_text))
    where
      by_room : (short : Bool) →
          (if short then 0 else length (book_text input)) ≤ length (if short then before else (book_text input ++ drop (length (book_text input)) before))
      by_room true = omega arith
      by_room false = rw length-append (omega arith)

  pub whole_text : longest_text ≤ length before → take r after ≡ book_text input
  whole_text long = rw (all_written, length_written) (take-append_seam (book_text input) _)
    where
      length_written : r ≡ length (book_text input)
      length_written = rw (le-ltb (length before) longest_text long) at done.length_is

      all_written : after ≡ book_text input ++ drop (length (book_text input)) before
      all_written = rw (le-ltb (length before) longest_text long) at done.text_is
