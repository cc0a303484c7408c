-- One order on a legal record: it was read and its call carried out or refused, or it could not be read.
-- Assumes nothing.
use Prim.Native.Nat.{ℕ}
use mathlib.Core.Path.{◌≡◌, sym}
use mathlib.Core.Bool.{true}
use mathlib.Core.List.{List}
use Rattle.std.specs.Prelude.{Ok, Err}
use Rattle.tree.specs.declared.refusal.Refusal.{Refusal}
use Rattle.tree.specs.Answered.{number_of, outcome_of}
use Rattle.tree.specs.Calls.{Answer, refused}
use Rattle.tree.specs.Record.{legal}
use Rattle.bridge.specs.Rows.{CarriedOut}
use Rattle.bridge.proofs.CarriedLegal.{carried_legal}
use Rattle.orders.specs.declared.Order.{Order}
use Rattle.orders.specs.Reading.{reading, call_told}
use Rattle.lists.specs.Lists.{answer_read, after_read, order_answer, order_after}
use Rattle.lists.specs.Runs.{OrderRan}

pub order_read : (n : ℕ) (o order : Order) (before after : List ℕ) (a : Answer) → legal before ≡ true → outcome_of call_told (Ok o) ≡ reading n → o ≡ order → CarriedOut (call_told order) before after a
    → OrderRan n before after a
unfolding outcome_of order_answer order_after answer_read after_read
order_read n o order before after a is_legal read order_is carried =
    record {
      answer_is = rw (sym read, order_is) carried.answer_is;
      rows_are = rw (sym read, order_is) (carried_legal (call_told order) before after a is_legal carried);
    }

pub order_unread : (n : ℕ) (r : Refusal) (rows : List ℕ) → legal rows ≡ true → outcome_of call_told (Err r) ≡ reading n → OrderRan n rows rows (refused (number_of r))
unfolding outcome_of order_answer order_after answer_read after_read
order_unread n r rows is_legal unread =
    record { answer_is = rw (sym unread); rows_are = record { is_legal = is_legal; tree_is = rw (sym unread) } }
