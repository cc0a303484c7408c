use mathlib.Core.Path.{sym, ◌∙◌, ap}
use mathlib.Core.Bool.{not}
use Rattle.paths.proofs.AllBelow.{so_far_none, so_far_more}
use Rattle.paths.proofs.NoneBelow.{smallest_nowhere, smallest_here}
use Rattle.asking.specs.Answers.{first_open}
use Rattle.asking.proofs.first_open.Goals as goal

pub loop-number-init : goal.loop-number-init
loop-number-init c = so_far_none _ _

pub returns-then-not-is_closed : goal.returns-then-not-is_closed
unfolding first_open
returns-then-not-is_closed c = sym (smallest_here c.loop-number.invariant c.loop-number-test.true (ap not (sym c.is_closed.ensures ∙ c.if-not-is_closed.true)))

pub loop-number-preserved : goal.loop-number-preserved
loop-number-preserved c = so_far_more c.loop-number.invariant c.loop-number-test.true (ap not (sym c.is_closed.ensures ∙ c.if-not-is_closed.false))

pub returns : goal.returns
unfolding first_open
returns c = sym (smallest_nowhere c.loop-number.invariant c.loop-number-test.false)
