-- `plan::trial::trial` meets its contract: the record is a tree, or it is none and the trial is made in the empty plan, which has the same tree.
-- Assumes nothing.
use mathlib.Core.Path.{sym, ◌∙◌, ap}
use lib.ListN.{length}
use Rattle.tree.specs.declared.Plan.{Plan}
use Rattle.tree.specs.Record.{legal}
use Rattle.tree.specs.Trial.{trial_outcome}
use Rattle.paths.specs.Checked.{CheckedRecord}
use Rattle.plan.proofs.Changes.{empty_legal, empty_has_all, asked_in_empty}
use Rattle.plan.proofs.trial.trial.Goals as goal

pub returns-in-Some : goal.returns-in-Some
unfolding CheckedRecord
returns-in-Some g c = rw (sym c.rows.ensures, sym c.in-Some.ensures) c.trial_line.ensures

pub invariant_of-trial_line : goal.invariant_of-trial_line
invariant_of-trial_line g c =
    record {
      is_legal = ap (λ (plan : Plan). legal plan.rows) c.empty-fresh.ensures ∙ empty_legal;
      has_all = ap (λ (plan : Plan). length plan.rows) c.empty-fresh.ensures ∙ empty_has_all;
    }

pub returns : goal.returns
unfolding CheckedRecord
returns g c = rw (sym c.rows.ensures) (asked_in_empty _ c.in_default.ensures (trial_outcome _ _) c.empty-fresh.ensures c.trial_line-2.ensures)
