use mathlib.Core.Path.{sym, ◌∙◌}
use Rattle.paths.proofs.AllBelow.{so_far_none, so_far_more, tested_fault, tested_all}
use Rattle.history.specs.Asked.{none_refused_at_level}
use Rattle.history.proofs.asked.level_explained.Goals as goal

pub loop-offset-init : goal.loop-offset-init
loop-offset-init c = so_far_none _ _

pub returns-then-not-node_explained : goal.returns-then-not-node_explained
unfolding none_refused_at_level
returns-then-not-node_explained c = sym (tested_fault c.loop-offset.invariant c.loop-offset-test.true (sym c.node_explained.ensures ∙ c.if-not-node_explained.true))

pub loop-offset-preserved : goal.loop-offset-preserved
loop-offset-preserved c = so_far_more c.loop-offset.invariant c.loop-offset-test.true (sym c.node_explained.ensures ∙ c.if-not-node_explained.false)

pub returns : goal.returns
unfolding none_refused_at_level
returns c = sym (tested_all c.loop-offset.invariant c.loop-offset-test.false)
