use native.Mathlib.Omega.{arith}
use mathlib.Core.Path.{sym}
use Rattle.candidates.proofs.PathSearch.{closed_line_left, search_first, search_last}
use Rattle.candidates.proofs.best_candidate.Goals as goal

pub loop-number-init : goal.loop-number-init
loop-number-init c = search_first _ _

pub loop-number-preserved-then-is_closed : goal.loop-number-preserved-then-is_closed
loop-number-preserved-then-is_closed c = closed_line_left _ c.loop-number.invariant (sym c.if-is_closed.ensures)

pub loop-number-preserved : goal.loop-number-preserved
loop-number-preserved c = c.best_on_path-best.ensures

pub returns : goal.returns
returns c = search_last _ c.loop-number.invariant c.args.lines.closed_from c.loop-number-test.false (omega arith)
