-- `reasons::reason_of` meets its contract: the period out of range, no node, or what is answered at the node found.
-- Assumes nothing.
use mathlib.Core.Path.{sym, ◌∙◌}
use Rattle.tree.specs.Answered.{outcome_of, number_of}
use Rattle.reasons.specs.Answers.{NodeFound}
use Rattle.reasons.proofs.Answering.{out_of_range, no_node, at_node}
use Rattle.reasons.proofs.reason_of.Goals as goal

pub returns-then-is_out_of_range : goal.returns-then-is_out_of_range
unfolding outcome_of number_of
returns-then-is_out_of_range c = out_of_range _ c.args.tree.is_legal _ _ _ _ (sym c.is_out_of_range.ensures ∙ c.if-is_out_of_range.true)

pub returns-in_default : goal.returns-in_default
unfolding outcome_of number_of NodeFound
returns-in_default c =
    no_node _ c.args.tree.is_legal _ _ _ _ (sym c.is_out_of_range.ensures ∙ c.if-is_out_of_range.false) (rw c.in_default.is at c.node_at.ensures)

pub reason_at-requires : goal.reason_at-requires
unfolding NodeFound
reason_at-requires c = (rw c.in-Some.is at c.node_at.ensures).1

pub returns : goal.returns
returns c =
    c.reason_at.ensures
    ∙ at_node _ c.args.tree.is_legal _ _ _ _ (sym c.is_out_of_range.ensures ∙ c.if-is_out_of_range.false) _ (rw c.in-Some.is at c.node_at.ensures)
