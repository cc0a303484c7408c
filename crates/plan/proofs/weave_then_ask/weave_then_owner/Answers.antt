-- `plan::weave_then_ask::weave_then_owner` meets its contract, by those of the calls.
-- Assumes nothing.
use Rattle.std.proofs.lemmas.Result.{err_from_is_err_and}
use Rattle.plan.specs.WovenAsked.{OwnedAlike}
use Rattle.plan.proofs.WovenAsked.{side_even, side_odd, weaving_refused, owners_alike}
use Rattle.plan.proofs.weave_then_ask.weave_then_owner.Goals as goal

pub returns-in_err-plan : goal.returns-in_err-plan
unfolding OwnedAlike
returns-in_err-plan g c =
    let told = err_from_is_err_and c.from_residual.result c.from_residual.ensures.1 in
    rw (told.1, told.2) (weaving_refused _ _ _ c.in_err-plan.ensures)

pub returns-then-round-eq0 : goal.returns-then-round-eq0
unfolding OwnedAlike
returns-then-round-eq0 g c = owners_alike _ _ _ c.in_ok-plan.ensures _ _ _ c.owner-woven.ensures (side_even _ _ c.if-round-eq0.true c.owner-side.ensures)

pub returns-else-round-eq0 : goal.returns-else-round-eq0
unfolding OwnedAlike
returns-else-round-eq0 g c = owners_alike _ _ _ c.in_ok-plan.ensures _ _ _ c.owner-woven.ensures (side_odd _ _ c.if-round-eq0.false c.owner-side-else-round-eq0.ensures)
