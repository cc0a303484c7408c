-- `reasons::reason_at` meets its contract, by the step, the divisor and the line that was found in the class.
-- Assumes nothing.
use borrow.Author.Tests.{eq-eqb, ne_eqb}
use Rattle.tree.specs.Numbers.{divides}
use Rattle.tree.specs.Answered.{outcome_of, number_of}
use Rattle.paths.specs.Rules.{line_or_12}
use Rattle.paths.proofs.PathRows.{within_path}
use Rattle.candidates.proofs.NodeNumbers.{step_positive}
use Rattle.reasons.specs.Answers.{reason_told}
use Rattle.reasons.proofs.Answering.{undivided, beyond_classes, of_class_found}
use Rattle.reasons.proofs.reason_at.Goals as goal

pub nonzero_rem-period : goal.nonzero_rem-period
nonzero_rem-period c = step_positive _ c.requires c.args.tree.is_legal c.args.node.line.below_64

pub returns-then-period-node-ne0 : goal.returns-then-period-node-ne0
unfolding outcome_of reason_told divides
returns-then-period-node-ne0 c = undivided _ c.requires _ _ (ne_eqb _ _ c.if-period-node-ne0.true)

pub weight-w-requires : goal.weight-w-requires
weight-w-requires c = within_path _ _ c.requires.on_path

pub nonzero_div-period : goal.nonzero_div-period
nonzero_div-period c = step_positive _ c.requires c.args.tree.is_legal c.args.node.line.below_64

pub returns-then-d-class : goal.returns-then-d-class
unfolding outcome_of number_of divides
returns-then-d-class c =
    beyond_classes _ c.requires _ _ (eq-eqb _ _ c.if-period-node-ne0.false) c.weight-w.ensures c.gcd-d.ensures c.if-d-class.true

pub line_of_class-requires-clause-level : goal.line_of_class-requires-clause-level
line_of_class-requires-clause-level c = within_path _ _ c.requires.on_path

pub returns-in_default : goal.returns-in_default
unfolding outcome_of number_of divides line_or_12
returns-in_default c =
    of_class_found _ c.requires _ _ (eq-eqb _ _ c.if-period-node-ne0.false) c.weight-w.ensures c.gcd-d.ensures c.if-d-class.false
    (rw c.in_default.is at c.line_of_class.ensures)

pub returns : goal.returns
unfolding outcome_of reason_told divides line_or_12
returns c =
    of_class_found _ c.requires _ _ (eq-eqb _ _ c.if-period-node-ne0.false) c.weight-w.ensures c.gcd-d.ensures c.if-d-class.false
    (rw c.in-Some.is at c.line_of_class.ensures)
