use mathlib.Core.Path.{sym}
use Rattle.tree.specs.Answered.{outcome_of}
use Rattle.bridge.specs.Rows.{tree_of_rows}
use Rattle.paths.proofs.AllBelow.{so_far_none, so_far_more, tested_all}
use Rattle.reasons.specs.Answers.{reason_told}
use Rattle.history.specs.Asked.{none_refused_at_node}
use Rattle.history.proofs.EachAsked.{line_passed, undivided_stops, refusal_stops}
use Rattle.history.proofs.asked.node_explained.Goals as goal

pub loop-class-init : goal.loop-class-init
loop-class-init c = so_far_none _ _

pub returns-in-Ok-StepDoesNotDivide : goal.returns-in-Ok-StepDoesNotDivide
unfolding outcome_of reason_told tree_of_rows
returns-in-Ok-StepDoesNotDivide c =
    undivided_stops _ _ _ _ _ c.loop-class.invariant c.loop-class-test.true (rw (c.in-Ok-StepDoesNotDivide.is, c.in-Ok-StepDoesNotDivide.field-0-is) at c.reason.ensures)

pub returns-in-Err : goal.returns-in-Err
unfolding outcome_of tree_of_rows
returns-in-Err c =
    rw c.ne.ensures (refusal_stops _ _ _ _ _ c.loop-class.invariant c.loop-class-test.true _ (rw c.in-Err.is at c.reason.ensures))

pub loop-class-preserved : goal.loop-class-preserved
unfolding outcome_of reason_told tree_of_rows
loop-class-preserved c =
    so_far_more c.loop-class.invariant c.loop-class-test.true (line_passed _ _ _ _ _ _ (rw (c.in-Ok-Line.is, c.in-Ok-Line.field-0-is) at c.reason.ensures))

pub returns : goal.returns
unfolding none_refused_at_node
returns c = sym (tested_all c.loop-class.invariant c.loop-class-test.false)
