-- `plan::weave_then_ask::weave_then_show` meets its contract, by those of the calls.
-- Assumes nothing.
use Rattle.std.proofs.lemmas.Result.{err_from_is_err_and}
use Rattle.plan.specs.WovenAsked.{ShownDoubled}
use Rattle.plan.proofs.WovenAsked.{weaving_refused, shown_as_doubled}
use Rattle.plan.proofs.weave_then_ask.weave_then_show.Goals as goal

pub returns-in_err-plan : goal.returns-in_err-plan
unfolding ShownDoubled
returns-in_err-plan g c =
    let told = err_from_is_err_and c.from_residual.result c.from_residual.ensures.1 in
    rw (told.1, told.2) (weaving_refused _ _ _ c.in_err-plan.ensures)

pub returns : goal.returns
unfolding ShownDoubled
returns g c = shown_as_doubled _ _ _ c.in_ok-plan.ensures _ _ _ _ c.show.ensures c.show-2.ensures c.show-3.ensures
