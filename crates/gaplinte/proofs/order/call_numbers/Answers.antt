-- `gaplinte::order::call_numbers` meets its contract: one list for each kind of order.
-- Assumes nothing.
use native.Mathlib.Omega.{arith}
use Rattle.orders.specs.Reading.{kind_of, line_of, period_of, call_told}
use Rattle.gaplinte.specs.OrdersServed.{call_numbers}
use Rattle.gaplinte.proofs.order.call_numbers.Goals as goal

pub overflow_cast-result : goal.overflow_cast-result
unfolding line_of call_told
overflow_cast-result c = record { fits = omega (arith, rw c.in-Open.is at c.requires) }

pub overflow_cast-result-in-Close : goal.overflow_cast-result-in-Close
unfolding line_of call_told
overflow_cast-result-in-Close c = record { fits = omega (arith, rw c.in-Close.is at c.requires) }

pub returns-in-Open : goal.returns-in-Open
unfolding kind_of line_of period_of call_told call_numbers
returns-in-Open c = rw c.in-Open.is

pub returns-in-Close : goal.returns-in-Close
unfolding kind_of line_of period_of call_told call_numbers
returns-in-Close c = rw c.in-Close.is
