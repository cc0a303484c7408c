-- `asking::times::Times::until_turn` meets its contract: the turn of this period is still to come, or the next period's is the next one.
-- Assumes nothing.
use native.Mathlib.Omega.{arith}
use mathlib.Core.Path.{sym}
use Rattle.asking.proofs.TurnsByDivision.{until_in_period, until_in_next}
use Rattle.asking.proofs.times.Times.until_turn.Goals as goal

pub returns-then-passed-start : goal.returns-then-passed-start
returns-then-passed-start c = sym (until_in_period _ _ c.args.self.start_below_period _ c.if-passed-start.true)

pub returns : goal.returns
returns c = omega (arith, until_in_next _ _ c.args.self.start_below_period _ c.if-passed-start.false)
