use mathlib.Core.Path.{sym}
use Rattle.candidates.proofs.LinesEnd.{closed_from_64, none_open, closed_one_more, last_found}
use Rattle.candidates.proofs.open_lines.lines_end.Goals as goal

pub loop-number-init : goal.loop-number-init
loop-number-init c = closed_from_64 _

pub returns-then-not-is_closed : goal.returns-then-not-is_closed
returns-then-not-is_closed c = last_found c.loop-number.invariant c.loop-number-test.true (sym c.if-not-is_closed.ensures)

pub loop-number-preserved : goal.loop-number-preserved
loop-number-preserved c = closed_one_more c.loop-number.invariant c.loop-number-test.true (sym c.if-not-is_closed.ensures)

pub returns : goal.returns
returns c = none_open c.loop-number.invariant c.loop-number-test.false
