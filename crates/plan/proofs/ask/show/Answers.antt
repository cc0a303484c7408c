-- `plan::ask::show` meets its contract: the lookup refuses, or the line's times and rows are read.
-- Assumes nothing.
use mathlib.Core.Path.{sym}
use Rattle.std.proofs.lemmas.Result.{err_from_is_err_and}
use Rattle.tree.specs.Answered.{outcome_of}
use Rattle.bridge.proofs.AskingRecords.{shown_refused}
use Rattle.plan.specs.Lookup.{LookedUp}
use Rattle.plan.proofs.AskingLaws.{shown_found}
use Rattle.plan.proofs.ask.show.Goals as goal

pub returns-in_err-line : goal.returns-in_err-line
unfolding outcome_of LookedUp
returns-in_err-line g c =
    let told = err_from_is_err_and c.from_residual.result c.from_residual.ensures.1 in
    rw (sym c.rows-rows.ensures, told.1, told.2) (sym (shown_refused _ _ _ c.in_err-line.ensures))

pub invariant_of-tree : goal.invariant_of-tree
unfolding LookedUp
invariant_of-tree g c = let there = c.in_ok-line.ensures.1 in record { is_legal = there.is_legal; has_all = there.has_all }

pub returns : goal.returns
unfolding outcome_of LookedUp
returns g c =
    let found = c.in_ok-line.ensures in
    rw (sym c.rows-rows.ensures, sym found.0, c.rows_of.ensures, c.times_of-times.ensures.0, c.times_of-times.ensures.1)
    (sym (shown_found _ _ c.in_ok-line.line.below_64 (rw (sym found.0) at found.1)))
