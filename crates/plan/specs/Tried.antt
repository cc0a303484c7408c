-- A trial and then the open on the same plan (document 02, Ask 3).
-- Assumes nothing.
use Rattle.std.specs.Prelude.{ℕ, ◌≡◌, Result}
use Rattle.tree.specs.declared.Plan.{Plan}
use Rattle.tree.specs.Calls.{open_line}
use Rattle.tree.specs.Trial.{trial_outcome, BroughtAbout}
use Rattle.tree.specs.Record.{tree_of}
use Rattle.tree.specs.declared.Start.{Start}
use Rattle.tree.specs.declared.refusal.Refusal.{Refusal}
use Rattle.tree.specs.Answered.{outcome_of}
use Rattle.lines.specs.Answers.{open_answer}
use Rattle.trials.specs.declared.Trial.{Trial}
use Rattle.trials.specs.Answers.{trial_told}
use Rattle.plan.specs.Meets.{Meets}

-- (Ask 3, 4) A trial of line L and period p told this, then the open gave this answer and this plan: each is that of the rules, and the open
-- did what the trial said.
pub record OpenedAsTried (L p : ℕ) (before : Plan) (told : Result Trial Refusal) (a : Result Start Refusal) (after : Plan) : Type 0 where
  pub told_is : outcome_of trial_told told ≡ trial_outcome L p (tree_of before)
  pub opened_is : Meets (open_line L p) before (open_answer a) after
  pub brought_about : BroughtAbout (outcome_of trial_told told) (open_answer a) (tree_of before) (tree_of after)
