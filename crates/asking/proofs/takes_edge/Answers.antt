-- `asking::takes_edge` meets its contract: a line that takes another edge does not take this one, and of any other the node decides.
-- Assumes nothing.
use mathlib.Core.Path.{sym, ◌∙◌}
use Rattle.asking.proofs.EdgeTaken.{takes_another, takes_this}
use Rattle.asking.proofs.takes_edge.Goals as goal

pub returns-then-edge : goal.returns-then-edge
returns-then-edge c = sym (takes_another _ _ _ _ _ c.edge.ensures c.if-edge.true)

pub returns : goal.returns
returns c = c.same_node.ensures ∙ sym (takes_this _ _ _ _ _ c.edge.ensures c.if-edge.false)
