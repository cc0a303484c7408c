use Rattle.paths.proofs.Filled.{filled_none, filled_more, filled_all}
use Rattle.asking.proofs.sheet.turns_of_lines.Goals as goal

pub loop-number-init : goal.loop-number-init
loop-number-init c = filled_none _ _ _ _

pub loop-number-preserved : goal.loop-number-preserved
loop-number-preserved c = filled_more c.loop-number.invariant c.loop-number-test.true c.line_turns.ensures

pub returns : goal.returns
returns c = filled_all c.loop-number.invariant c.loop-number-test.false
