use native.Mathlib.Omega.{arith}
use mathlib.Core.Path.{◌≡◌}
use Rattle.history.specs.FromPlan.{FromPlanOfCalls}
use Rattle.history.specs.Replay.{call_at}
use Rattle.history.proofs.FromPlan.{from_plan_of_calls}
use Rattle.history.proofs.Replaying.{no_call_run, one_more_run}
use Rattle.history.proofs.replay_from.Goals as goal

pub loop-i-init : goal.loop-i-init
loop-i-init c = no_call_run _ _ _

pub loop-i-preserved : goal.loop-i-preserved
unfolding call_at
loop-i-preserved c = rw c.number.ensures (one_more_run _ _ _ _ _ _ _ _ c.loop-i.invariant (omega arith) c.run_call-changed.ensures)

pub returns : goal.returns
unfolding FromPlanOfCalls
returns c =
    let all : c.loop-i.i ≡ c.min-count.result = omega arith in
    let run = rw all at c.loop-i.invariant in
    record { count_is = c.min-count.ensures; first = run; claims = from_plan_of_calls run.entries c.args.first c.loop-i.plan run.ran }
