-- `orders::read` meets its contract: the fields that it goes by are the order's, and each return is one law of ReadingChecks.
-- Assumes nothing.
use native.Mathlib.Omega.{arith}
use Prim.Native.Nat.{◌<◌}
use mathlib.Core.Path.{sym}
use Rattle.tree.specs.Answered.{outcome_of, number_of}
use Rattle.orders.specs.Order.{fields_of}
use Rattle.orders.specs.Reading.{call_told}
use Rattle.orders.proofs.ReadingChecks.{open_read, close_read, kind_unread, filler_unread, close_unread}
use Rattle.orders.proofs.read.Goals as goal

pub returns-then-filler-ne0 : goal.returns-then-filler-ne0
unfolding outcome_of number_of fields_of
returns-then-filler-ne0 c = sym (filler_unread _ (rw c.fields-kind.ensures at c.if-filler-ne0.true))

pub returns-then-period-ne0 : goal.returns-then-period-ne0
unfolding outcome_of number_of fields_of
returns-then-period-ne0 c =
    let found = c.fields-kind.ensures in sym (close_unread _ (rw found at c.in-1.is) (rw found at c.if-period-ne0.true))

pub returns-in-0 : goal.returns-in-0
unfolding outcome_of call_told fields_of
returns-in-0 c =
    let found = c.fields-kind.ensures in
    rw found (sym (open_read _ (rw found at c.in-0.is) (rw found at c.if-filler-ne0.false)))

pub returns-else-period-ne0 : goal.returns-else-period-ne0
unfolding outcome_of call_told fields_of
returns-else-period-ne0 c =
    let found = c.fields-kind.ensures in
    rw found (sym (close_read _ (rw found at c.in-1.is) (rw found at c.if-filler-ne0.false) (rw found at c.if-period-ne0.false)))

pub returns-in-2-to-18446744073709551615 : goal.returns-in-2-to-18446744073709551615
unfolding outcome_of number_of fields_of
returns-in-2-to-18446744073709551615 c =
    let large : 1 < c.fields-kind.result.kind = omega arith in sym (kind_unread _ (rw c.fields-kind.ensures at large))
