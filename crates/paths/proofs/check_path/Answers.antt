-- `paths::check_path` meets its contract: a root of weight 1 is alone or a fault, and any other path is checked row by row.
-- Assumes nothing.
use mathlib.Core.Path.{sym, ◌∙◌}
use Rattle.paths.proofs.PathRange.{weight_not_one, root_edge_not_0, root_not_alone, root_alone}
use Rattle.paths.proofs.check_path.Goals as goal

pub returns-then-weight-ne1 : goal.returns-then-weight-ne1
returns-then-weight-ne1 c = c.check_rows.ensures ∙ sym (weight_not_one _ _ c.weight.ensures c.if-weight-ne1.true)

pub returns-then-edge-ne0 : goal.returns-then-edge-ne0
returns-then-edge-ne0 c = sym (root_edge_not_0 _ _ c.weight.ensures c.if-weight-ne1.false c.edge.ensures c.if-edge-ne0.true)

pub returns-then-weight-ne0 : goal.returns-then-weight-ne0
returns-then-weight-ne0 c = sym (root_not_alone _ _ c.weight.ensures c.if-weight-ne1.false c.edge.ensures c.if-edge-ne0.false c.weight-2.ensures c.if-weight-ne0.true)

pub returns : goal.returns
returns c = sym (root_alone _ _ c.weight.ensures c.if-weight-ne1.false c.edge.ensures c.if-edge-ne0.false c.weight-2.ensures c.if-weight-ne0.false)
