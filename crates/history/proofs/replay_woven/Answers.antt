-- `history::replay_woven` meets its contract, by those of the weaving and of `replay_from`.
-- Assumes nothing.
use mathlib.Core.Path.{refl}
use Rattle.std.proofs.lemmas.Result.{err_from_is_err_and}
use Rattle.bridge.specs.Rows.{tree_of_rows}
use Rattle.tree.specs.Answered.{outcome_of}
use Rattle.bridge.proofs.PlanGiven.{tree_given_by, refused_with}
use Rattle.weaving.specs.Sides.{PlansWoven}
use Rattle.history.specs.Replay.{ReplaysFromGiven}
use Rattle.history.specs.FromWoven.{ReplaysWoven}
use Rattle.weaving.proofs.WovenPlan.{given_has_tree}
use Rattle.history.proofs.replay_woven.Goals as goal

pub returns-in_err-first : goal.returns-in_err-first
unfolding ReplaysWoven ReplaysFromGiven PlansWoven outcome_of tree_of_rows
returns-in_err-first c =
    let told = err_from_is_err_and c.from_residual.result c.from_residual.ensures.1 in
    rw (told.1, told.2) (refused_with _ _ c.in_err-first.ensures, refl)

pub returns : goal.returns
unfolding ReplaysWoven ReplaysFromGiven PlansWoven outcome_of tree_of_rows
returns c =
    let x = tree_given_by _ _ c.in_ok-first.ensures in
    let replays = rw x.plan_is at c.replay_from.ensures in
    record {
      tree = x.tree;
      given = x.given;
      count_is = replays.count_is;
      first = replays.first;
      claims = rw (given_has_tree _ _ x.tree x.given) at replays.claims;
    }
