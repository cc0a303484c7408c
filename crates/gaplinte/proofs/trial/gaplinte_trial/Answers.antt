-- `gaplinte::trial::gaplinte_trial` meets its contract, by that of `plan::trial::trial` for the period as open takes it.
-- Assumes nothing.
use mathlib.Core.Path.{◌∙◌}
use borrow.Author.Rules.{rules}
use Rattle.bridge.proofs.PeriodAsked.{trial_stands_for}
use Rattle.trials.specs.Answers.{trial_told}
use Rattle.gaplinte.specs.Served.{tried_numbers}
use Rattle.gaplinte.proofs.Serving.{written}
use Rattle.gaplinte.proofs.trial.gaplinte_trial.Goals as goal

pub returns : goal.returns
returns c =
    let told =
    written trial_told tried_numbers _ _ (rw c.period_asked.ensures at c.trial-told.ensures ∙ trial_stands_for _ _ _) c.map.ensures.cases (λ t ns p. search rules)
    c.write.ensures.answer c.write.ensures.left in
    record { answer_is = told.answer_is; tried_is = told.numbers_are }
