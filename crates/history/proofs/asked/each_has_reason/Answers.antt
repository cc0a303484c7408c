use mathlib.Core.Path.{sym, ◌∙◌}
use Rattle.paths.proofs.AllBelow.{so_far_none, so_far_more, tested_fault, tested_all}
use Rattle.history.specs.Asked.{none_refused}
use Rattle.history.proofs.asked.each_has_reason.Goals as goal

pub loop-level-init : goal.loop-level-init
loop-level-init c = so_far_none _ _

pub returns-then-not-level_explained : goal.returns-then-not-level_explained
unfolding none_refused
returns-then-not-level_explained c = sym (tested_fault c.loop-level.invariant c.loop-level-test.true (sym c.level_explained.ensures ∙ c.if-not-level_explained.true))

pub loop-level-preserved : goal.loop-level-preserved
loop-level-preserved c = so_far_more c.loop-level.invariant c.loop-level-test.true (sym c.level_explained.ensures ∙ c.if-not-level_explained.false)

pub returns : goal.returns
unfolding none_refused
returns c = sym (tested_all c.loop-level.invariant c.loop-level-test.false)
