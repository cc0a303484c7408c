-- What an order answers can be printed from its two answer bytes: the result has one digit, the start is below 4,096, and a line was opened exactly
-- where the kind and the result are 0.
-- Assumes nothing.
use Prim.Native.Nat.{ℕ, zero, suc, ◌<◌}
use native.Mathlib.Omega.{arith}
use mathlib.Core.Path.{◌≡◌, refl}
use mathlib.Core.Bool.{Bool, true, false}
use mathlib.Core.List.{List, [], ◌∷◌}
use Rattle.std.specs.Prelude.{Option, None, Some}
use lib.Dec.{eqb}
use borrow.Author.Tests.{eqb-true, eqb-false}
use Rattle.tree.specs.Tree.{Tree}
use Rattle.tree.specs.Shape.{Legal}
use Rattle.tree.specs.Calls.{Call, open_line, close_line, Answer, refused, gives_unless, refusal, reply, carried_out, answer_unless, tree_unless, answer, after}
use Rattle.tree.proofs.Checks.{open_may}
use Rattle.tree.proofs.Opening.{opened_legal}
use Rattle.tree.proofs.Closing.{closed_legal}
use Rattle.orders.specs.Order.{kind, line, period}
use Rattle.orders.specs.Reading.{reading_refusal, call_of, reading}
use Rattle.lists.specs.Lists.{answer_read, after_read, order_answer, order_after, list_answers, result_field, start}
use Rattle.lists.proofs.AnswersFit.{Small, refusal_small, reading_small, order_answer_fits}
use Rattle.book_text.specs.BookText.{start_word}
use Rattle.book_text.specs.Writing.{start_printed}
use Rattle.book_text.proofs.StartWord.{start_of_opened, start_of_other_kind, start_of_refused}

-- One order

-- the result and the last word of an answer to an order of kind k
record Worded (k : ℕ) (a : Answer) : Type 0 where
  result_small : result_field a < 10
  start_same : start_printed k (result_field a) (start a) ≡ start_word a

refused_worded : (k m : ℕ) → (0 < m) × (m < 10) → Worded k (refused m)
unfolding result_field start start_word
refused_worded k m small = record { result_small = omega arith; start_same = by_kind (eqb k 0) refl }
  where
    not_0 : m ≡ 0 → ⊥
    not_0 zero_is = omega arith

    by_kind : (b : Bool) → eqb k 0 ≡ b → start_printed k m 0 ≡ start_word (refused m)
    by_kind true e = start_of_refused k m 0 (eqb-true k 0 e) not_0
    by_kind false e = start_of_other_kind k m 0 (eqb-false k 0 e)

called_worded : (k L p : ℕ) (t : Tree) (o : Option ℕ) → Small o → Worded k (answer_unless o (reply (call_of k L p) t))
unfolding Small answer_unless call_of reply result_field start start_word
called_worded k L p t (Some m) small = refused_worded k m small
called_worded zero L p t None small = record { result_small = omega arith; start_same = start_of_opened 0 0 _ refl refl }
called_worded (suc k) L p t None small = record { result_small = omega arith; start_same = start_of_other_kind (suc k) 0 0 (λ e. omega arith) }

order_worded : (n : ℕ) (t : Tree) → Worded (kind n) (order_answer n t)
unfolding Small order_answer answer_read answer reading gives_unless
order_worded n t = by_reading (reading_refusal n) (reading_small n)
  where
    by_reading : (o : Option ℕ) → Small o → Worded (kind n) (answer_read (gives_unless o (call_of (kind n) (line n) (period n))) t)
    by_reading (Some m) small = refused_worded (kind n) m small
    by_reading None small = called_worded (kind n) (line n) (period n) t _ (refusal_small (call_of (kind n) (line n) (period n)) t)

pub record Printable (k : ℕ) (a : Answer) : Type 0 where
  pub result_small : result_field a < 10
  pub start_small : start a < 4096
  pub start_same : start_printed k (result_field a) (start a) ≡ start_word a

order_printable : (n : ℕ) (t : Tree) → Legal t → Printable (kind n) (order_answer n t)
order_printable n t is_legal =
    record {
      result_small = (order_worded n t).result_small;
      start_small = (order_answer_fits n t is_legal).start_fits;
      start_same = (order_worded n t).start_same;
    }

-- The orders in turn

after_legal : (c : Call) (t : Tree) → Legal t → (o : Option ℕ) → refusal c t ≡ o → Legal (tree_unless o t (carried_out c t))
unfolding refusal tree_unless carried_out
after_legal c t is_legal (Some n) e = is_legal
after_legal (open_line L p) t is_legal None e = opened_legal L p t (open_may L p t is_legal e)
after_legal (close_line L) t is_legal None e = closed_legal L t is_legal

order_after_legal : (n : ℕ) (t : Tree) → Legal t → Legal (order_after n t)
unfolding order_after after_read after reading gives_unless
order_after_legal n t is_legal = by_reading (reading_refusal n)
  where
    by_reading : (o : Option ℕ) → Legal (after_read (gives_unless o (call_of (kind n) (line n) (period n))) t)
    by_reading (Some m) = is_legal
    by_reading None = after_legal (call_of (kind n) (line n) (period n)) t is_legal _ refl

-- each order has an answer that can be printed
unfoldable pub AllPrintable : List ℕ → List Answer → Type 0
AllPrintable [] answers = Unit
AllPrintable (n ∷ ns) [] = ⊥
AllPrintable (n ∷ ns) (a ∷ answers) = Printable (kind n) a × AllPrintable ns answers

pub all_printable : (t : Tree) → Legal t → (ns : List ℕ) → AllPrintable ns (list_answers t ns)
unfolding AllPrintable list_answers
all_printable t is_legal [] = tt
all_printable t is_legal (n ∷ ns) = (order_printable n t is_legal, all_printable (order_after n t) (order_after_legal n t is_legal) ns)
