use mathlib.Core.Path.{sym, ◌∙◌}
use Rattle.paths.specs.Rules.{line_of_class}
use Rattle.paths.proofs.AllBelow.{so_far_none, so_far_more}
use Rattle.paths.proofs.NoneBelow.{smallest_nowhere, smallest_here}
use Rattle.reasons.proofs.ClassLines.{through_no_node, takes_this_class, takes_other_class}
use Rattle.reasons.proofs.line_of_class.Goals as goal

pub loop-number-init : goal.loop-number-init
loop-number-init c = so_far_none _ _

pub loop-number-preserved-then-not-same_node : goal.loop-number-preserved-then-not-same_node
loop-number-preserved-then-not-same_node c =
    so_far_more c.loop-number.invariant c.loop-number-test.true (through_no_node _ _ _ _ _ _ (sym c.same_node.ensures ∙ c.if-not-same_node.true))

pub returns-then-edge-d : goal.returns-then-edge-d
unfolding line_of_class
returns-then-edge-d c =
    let meets = sym c.same_node.ensures ∙ c.if-not-same_node.false in
    sym (smallest_here c.loop-number.invariant c.loop-number-test.true (takes_this_class _ _ _ _ _ _ c.edge.ensures meets c.if-edge-d.true))

pub loop-number-preserved : goal.loop-number-preserved
loop-number-preserved c =
    so_far_more c.loop-number.invariant c.loop-number-test.true (takes_other_class _ _ _ _ _ _ c.edge.ensures c.if-edge-d.false)

pub returns : goal.returns
unfolding line_of_class
returns c = sym (smallest_nowhere c.loop-number.invariant c.loop-number-test.false)
