-- `orders::round_trip::packed_then_read` meets its contract, from the contracts of `pack` and `read` and the round trip.
-- Assumes nothing.
use mathlib.Core.Path.{sym, ◌∙◌}
use Rattle.std.proofs.lemmas.Result.{err_from_is_err_and}
use Rattle.tree.specs.Answered.{outcome_of}
use Rattle.orders.proofs.RoundTrip.{packed_then_read_outcome, packing_refused}
use Rattle.orders.proofs.round_trip.packed_then_read.Goals as goal

pub returns : goal.returns
unfolding outcome_of
returns c = c.read.ensures ∙ packed_then_read_outcome _ _ _ _ (sym c.in_ok-pack.ensures)

pub returns-in_err-pack : goal.returns-in_err-pack
unfolding outcome_of
returns-in_err-pack c =
    let refusal = err_from_is_err_and c.from_residual.result c.from_residual.ensures.1 in
    rw (refusal.1, refusal.2) (sym (packing_refused _ _ _ _ (sym c.in_err-pack.ensures)))
