use native.Mathlib.Omega.{arith}
use mathlib.Core.Path.{sym, ◌∙◌, ap}
use Rattle.std.specs.Prelude.{Some}
use Rattle.paths.specs.Rules.{line_through}
use Rattle.paths.proofs.AllBelow.{so_far_none, so_far_more}
use Rattle.paths.proofs.NoneBelow.{smallest_nowhere, smallest_here}
use Rattle.reasons.specs.Answers.{NodeFound}
use Rattle.reasons.proofs.NodeFinding.{path_too_short, through_this, through_another}
use Rattle.reasons.proofs.node_at.Goals as goal

pub loop-number-init : goal.loop-number-init
loop-number-init c = so_far_none _ _

pub loop-number-preserved-then-path_length-level : goal.loop-number-preserved-then-path_length-level
loop-number-preserved-then-path_length-level c =
    so_far_more c.loop-number.invariant c.loop-number-test.true (path_too_short _ _ _ _ (omega (arith, c.path_length.ensures)))

pub returns-then-node-offset : goal.returns-then-node-offset
unfolding NodeFound line_through
returns-then-node-offset c =
    let node = c.node_of-node.ensures in
    let passes = through_this _ _ _ _ node.numbers node.same.0 node.same.1 c.if-node-offset.true in
    (smallest_here c.loop-number.invariant c.loop-number-test.true passes ∙ ap Some (sym node.same.0), node.numbers, node.same.1)

pub loop-number-preserved : goal.loop-number-preserved
loop-number-preserved c =
    let node = c.node_of-node.ensures in
    so_far_more c.loop-number.invariant c.loop-number-test.true (through_another _ _ _ _ node.numbers node.same.0 node.same.1 c.if-node-offset.false)

pub returns : goal.returns
unfolding NodeFound line_through
returns c = smallest_nowhere c.loop-number.invariant c.loop-number-test.false
