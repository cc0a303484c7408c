-- `plan::reason::reason` meets its contract: the record is a tree, or it is none and the empty plan is asked, which has the same tree.
-- Assumes nothing.
use mathlib.Core.Path.{sym, ◌∙◌, ap}
use lib.ListN.{length}
use Rattle.tree.specs.declared.Plan.{Plan}
use Rattle.tree.specs.Calls.{reason_outcome}
use Rattle.tree.specs.Record.{legal}
use Rattle.paths.specs.Checked.{CheckedRecord}
use Rattle.plan.proofs.Changes.{empty_legal, empty_has_all, asked_in_empty}
use Rattle.plan.proofs.reason.reason.Goals as goal

pub returns-in-Some : goal.returns-in-Some
unfolding CheckedRecord
returns-in-Some g c = rw (sym c.rows.ensures, sym c.in-Some.ensures) c.reason_of.ensures

pub invariant_of-reason_of : goal.invariant_of-reason_of
invariant_of-reason_of g c =
    record {
      is_legal = ap (λ (plan : Plan). legal plan.rows) c.empty-fresh.ensures ∙ empty_legal;
      has_all = ap (λ (plan : Plan). length plan.rows) c.empty-fresh.ensures ∙ empty_has_all;
    }

pub returns : goal.returns
unfolding CheckedRecord
returns g c = rw (sym c.rows.ensures) (asked_in_empty _ c.in_default.ensures (reason_outcome _ _ _) c.empty-fresh.ensures c.reason_of-2.ensures)
