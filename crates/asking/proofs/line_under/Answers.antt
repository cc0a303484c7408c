use mathlib.Core.Path.{sym, ◌∙◌}
use Rattle.paths.specs.Rules.{line_under}
use Rattle.paths.proofs.AllBelow.{so_far_none, so_far_more}
use Rattle.paths.proofs.NoneBelow.{smallest_nowhere, smallest_here}
use Rattle.asking.specs.Answers.{takes_edge}
use Rattle.asking.proofs.line_under.Goals as goal

pub loop-number-init : goal.loop-number-init
loop-number-init c = so_far_none _ _

pub returns-then-takes_edge : goal.returns-then-takes_edge
unfolding line_under takes_edge
returns-then-takes_edge c = sym (smallest_here c.loop-number.invariant c.loop-number-test.true (sym c.takes_edge.ensures ∙ c.if-takes_edge.true))

pub loop-number-preserved : goal.loop-number-preserved
loop-number-preserved c = so_far_more c.loop-number.invariant c.loop-number-test.true (sym c.takes_edge.ensures ∙ c.if-takes_edge.false)

pub returns : goal.returns
unfolding line_under takes_edge
returns c = sym (smallest_nowhere c.loop-number.invariant c.loop-number-test.false)
