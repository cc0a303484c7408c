-- An open after its trial.
-- Assumes nothing.
use Prim.Native.Nat.{ℕ}
use mathlib.Core.Path.{◌≡◌}
use mathlib.Core.List.{List}
use Rattle.std.specs.Prelude.{Result}
use Rattle.tree.specs.declared.Plan.{Plan}
use Rattle.tree.specs.declared.Start.{Start}
use Rattle.tree.specs.declared.refusal.Refusal.{Refusal}
use Rattle.tree.specs.Answered.{outcome_of}
use Rattle.tree.specs.Calls.{open_line, Answer}
use Rattle.tree.specs.Trial.{trial_outcome, BroughtAbout}
use Rattle.tree.specs.Record.{tree_of}
use Rattle.tree.proofs.Trials.{open_brings_about}
use Rattle.bridge.specs.Rows.{plan_of, tree_of_rows, CarriedOut}
use Rattle.bridge.proofs.TreeOfRecord.{tree_of_legal}
use Rattle.lines.specs.Answers.{open_answer}
use Rattle.trials.specs.declared.Trial.{Trial as Told}
use Rattle.trials.specs.Answers.{trial_told}
use Rattle.plan.specs.Meets.{Meets}
use Rattle.plan.specs.Tried.{OpenedAsTried}
use Rattle.plan.proofs.Changes.{carried_meets, plan_after_tree}

-- an open that meets its promise does what the trial tells of it
pub open_as_told : (L p : ℕ) (before : Plan) (a : Answer) (after : Plan) → Meets (open_line L p) before a after → BroughtAbout (trial_outcome L p (tree_of before)) a (tree_of before) (tree_of after)
open_as_told L p before a after opened_is =
    rw (opened_is.answer_is, opened_is.plan_is, plan_after_tree (open_line L p) before) (open_brings_about L p (tree_of before) (tree_of_legal before))

-- the same of an open on a record that is lent
pub open_rows_as_told : (L p : ℕ) (before after : List ℕ) (a : Answer) → CarriedOut (open_line L p) before after a → BroughtAbout (trial_outcome L p (tree_of_rows before)) a (tree_of_rows before) (tree_of_rows after)
unfolding tree_of_rows
open_rows_as_told L p before after a carried = open_as_told L p (plan_of before) a (plan_of after) (carried_meets (open_line L p) (plan_of before) after a carried)

pub opened_as_tried : (L p : ℕ) (before : Plan) (told : Result Told Refusal) (a : Result Start Refusal) (after : Plan) →
    outcome_of trial_told told ≡ trial_outcome L p (tree_of before) → Meets (open_line L p) before (open_answer a) after → OpenedAsTried L p before told a after
opened_as_tried L p before told a after told_is opened_is =
    record {
      told_is = told_is;
      opened_is = opened_is;
      brought_about = rw told_is (open_as_told L p before (open_answer a) after opened_is);
    }
