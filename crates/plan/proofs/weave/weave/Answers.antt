-- `plan::weave::weave` meets its contract: each side has the tree of its record, that of the empty plan where the record is no tree.
-- Assumes nothing.
use mathlib.Core.Path.{◌≡◌, ◌∙◌, ap}
use lib.ListN.{length}
use Rattle.tree.specs.declared.Plan.{Plan}
use Rattle.tree.specs.Tree.{nothing}
use Rattle.tree.specs.Record.{legal}
use Rattle.bridge.specs.Rows.{tree_of_rows}
use Rattle.weaving.specs.Sides.{PlansWoven}
use Rattle.plan.specs.Meets.{empty_plan}
use Rattle.plan.proofs.Changes.{empty_tree, empty_legal, empty_has_all}
use Rattle.plan.proofs.weave.weave.Goals as goal

-- the plan lent for a record that is no tree
fresh_empty : (fresh : Plan) → fresh ≡ empty_plan → tree_of_rows fresh.rows ≡ nothing
unfolding tree_of_rows
fresh_empty fresh is_empty = ap (λ (plan : Plan). tree_of_rows plan.rows) is_empty ∙ empty_tree

pub invariant_of-empty_tree : goal.invariant_of-empty_tree
invariant_of-empty_tree g c =
    record {
      is_legal = ap (λ (plan : Plan). legal plan.rows) c.empty-fresh.ensures ∙ empty_legal;
      has_all = ap (λ (plan : Plan). length plan.rows) c.empty-fresh.ensures ∙ empty_has_all;
    }

pub tree_or-requires : goal.tree_or-requires
tree_or-requires g c = fresh_empty _ c.empty-fresh.ensures

pub tree_or-requires-2 : goal.tree_or-requires-2
tree_or-requires-2 g c = fresh_empty _ c.empty-fresh.ensures

pub returns : goal.returns
unfolding PlansWoven
returns g c = rw (c.tree_or.ensures, c.tree_or-2.ensures, c.rows.ensures, c.rows-2.ensures) at c.weave.ensures
