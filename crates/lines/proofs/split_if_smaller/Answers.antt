-- `lines::split_if_smaller` meets its contract, by the test of the divisor against the weight.
-- Assumes nothing.
use mathlib.Core.Path.{sym, ◌∙◌}
use Rattle.paths.proofs.PathRows.{within_path}
use Rattle.lines.proofs.SplitIfSmaller.{smaller_than_weight, split_smaller, split_not_smaller}
use Rattle.lines.proofs.split_if_smaller.Goals as goal

pub weight-requires : goal.weight-requires
weight-requires c = within_path _ _ c.requires.on_path

pub split_node-requires : goal.split_node-requires
split_node-requires c =
    let ready = c.requires in
    ready.splittable (smaller_than_weight _ _ _ _ _ ready.on_path c.weight.ensures c.if-d-weight.true)

pub returns-then-d-weight : goal.returns-then-d-weight
returns-then-d-weight c =
    let ready = c.requires in
    c.split_node.ensures ∙ sym (split_smaller _ _ _ _ _ ready.on_path c.weight.ensures c.if-d-weight.true)

pub returns-else-d-weight : goal.returns-else-d-weight
returns-else-d-weight c =
    let ready = c.requires in
    sym (split_not_smaller _ _ _ _ _ ready.on_path c.weight.ensures c.if-d-weight.false)
