-- `plan::ask::turns` meets its contract: the lookup refuses, or the line's turns are counted by its times.
-- Assumes nothing.
use mathlib.Core.Path.{sym}
use Rattle.std.proofs.lemmas.Result.{err_from_is_err_and}
use Rattle.tree.specs.Answered.{outcome_of}
use Rattle.bridge.proofs.AskingRecords.{turns_refused}
use Rattle.plan.specs.Lookup.{LookedUp}
use Rattle.plan.proofs.AskingLaws.{turns_found}
use Rattle.plan.proofs.ask.turns.Goals as goal

pub returns-in_err-open : goal.returns-in_err-open
unfolding outcome_of LookedUp
returns-in_err-open g c =
    let told = err_from_is_err_and c.from_residual.result c.from_residual.ensures.1 in
    rw (sym c.rows-rows.ensures, told.1, told.2) (sym (turns_refused _ _ _ _ _ c.in_err-open.ensures))

pub invariant_of-times_of : goal.invariant_of-times_of
unfolding LookedUp
invariant_of-times_of g c = let there = c.in_ok-open.ensures.1 in record { is_legal = there.is_legal; has_all = there.has_all }

pub returns : goal.returns
unfolding outcome_of LookedUp
returns g c =
    let found = c.in_ok-open.ensures in
    rw (sym c.rows-rows.ensures, sym found.0, c.turns.ensures, c.times_of-times.ensures.0, c.times_of-times.ensures.1)
    (sym (turns_found _ _ c.in_ok-open.open.below_64 (rw (sym found.0) at found.1) _ _))
