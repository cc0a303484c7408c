-- `orders::round_trip::read_then_packed` meets its contract, from the contracts of `read` and `pack` and the round trip.
-- Assumes nothing.
use native.Mathlib.Omega.{arith}
use mathlib.Core.Path.{sym, ◌∙◌}
use Rattle.std.proofs.lemmas.Result.{err_from_is_err_and}
use Rattle.tree.specs.Answered.{outcome_of}
use Rattle.tree.specs.Calls.{open_line, close_line}
use Rattle.orders.specs.Reading.{kind_of, line_of, period_of, call_told}
use Rattle.orders.proofs.RoundTrip.{read_then_packed_outcome, reading_refused}
use Rattle.orders.proofs.round_trip.read_then_packed.Goals as goal

pub returns-in-Open : goal.returns-in-Open
unfolding outcome_of call_told kind_of line_of period_of
returns-in-Open c =
    c.pack.ensures
    ∙ read_then_packed_outcome _ (record { first = omega arith; second = omega arith; third = omega arith }) (open_line _ _)
    (sym c.in_ok-line.ensures ∙ rw c.in-Open.is)

pub returns-in-Close : goal.returns-in-Close
unfolding outcome_of call_told kind_of line_of period_of
returns-in-Close c =
    c.pack-in-Close.ensures
    ∙ read_then_packed_outcome _ (record { first = omega arith; second = omega arith; third = omega arith }) (close_line _)
    (sym c.in_ok-line.ensures ∙ rw c.in-Close.is)

pub returns-in_err-line : goal.returns-in_err-line
unfolding outcome_of
returns-in_err-line c =
    let refusal = err_from_is_err_and c.from_residual.result c.from_residual.ensures.1 in
    rw (refusal.1, refusal.2) (sym (reading_refused _ _ (sym c.in_err-line.ensures)))
