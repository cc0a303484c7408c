-- `trials::trial_line` meets its contract, by what the checks and the search found: a refusal, the root of an empty plan, or the chosen candidate.
-- Assumes nothing.
use Rattle.std.proofs.lemmas.Result.{err_from_is_err_and}
use Rattle.tree.specs.Answered.{outcome_of}
use Rattle.lines.specs.Checks.{OpenChecked}
use Rattle.lines.proofs.OpenLine.{checked_refusal, checked_root, checked_spot}
use Rattle.trials.proofs.TrialLine.{trial_refused, trial_first, spot_tryable, trial_booked}
use Rattle.trials.proofs.trial_line.Goals as goal

pub returns-in_err-room : goal.returns-in_err-room
unfolding outcome_of OpenChecked
returns-in_err-room c =
    let told = err_from_is_err_and c.from_residual.result c.from_residual.ensures.1 in
    rw (told.1, told.2) (trial_refused _ _ _ (checked_refusal _ _ _ _ c.in_err-room.ensures))

pub returns-in_default : goal.returns-in_default
unfolding outcome_of OpenChecked
returns-in_default c =
    let first = checked_root _ _ _ c.in_ok-room.ensures.1 c.in_default.is in
    trial_first _ _ _ first.0 c.args.tree.has_all first.1

pub trial_at-requires : goal.trial_at-requires
unfolding OpenChecked
trial_at-requires c = spot_tryable _ _ _ _ (checked_spot _ _ _ c.in_ok-room.ensures.1 c.in-Some.is) c.args.tree.has_all

pub returns : goal.returns
unfolding outcome_of OpenChecked
returns c = trial_booked _ _ _ _ (checked_spot _ _ _ c.in_ok-room.ensures.1 c.in-Some.is) c.args.tree.has_all c.trial_at.ensures
