use native.Mathlib.Omega.{arith}
use Rattle.joining.proofs.CommonNumbers.{listed_none, listed_more, listed_all}
use Rattle.joining.proofs.common.common_of_lines.Goals as goal

pub loop-number-init : goal.loop-number-init
loop-number-init c = listed_none _ _

pub loop-number-preserved : goal.loop-number-preserved
loop-number-preserved c = listed_more c.loop-number.invariant (omega (arith, c.loop-number-test.true, c.lines_end-end.ensures.closed_from.within)) c.nodes_in_common.ensures

pub returns : goal.returns
returns c = listed_all c.loop-number.invariant c.lines_end-end.ensures.closed_from c.loop-number-test.false
