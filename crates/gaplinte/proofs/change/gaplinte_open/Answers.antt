-- `gaplinte::change::gaplinte_open` meets its contract, by that of `plan::change::open_rows` for the period as open takes it.
-- Assumes nothing.
use Rattle.std.specs.Prelude.{Result, Ok, Err}
use mathlib.Core.Path.{◌≡◌, refl, ◌∙◌, ap}
use borrow.Author.Rules.{rules}
use Rattle.tree.specs.declared.Start.{Start}
use Rattle.tree.specs.declared.refusal.Refusal.{Refusal}
use Rattle.tree.specs.Answered.{outcome_of}
use Rattle.bridge.proofs.PeriodAsked.{period_stands_for}
use Rattle.lines.specs.Answers.{open_answer}
use Rattle.gaplinte.specs.Served.{change_outcome}
use Rattle.gaplinte.proofs.Serving.{valued}
use Rattle.gaplinte.proofs.change.gaplinte_open.Goals as goal

-- the value is the start
start_told : (r : Result Start Refusal) → outcome_of (λ s. s.0) r ≡ change_outcome (open_answer r)
unfolding outcome_of open_answer change_outcome
start_told (Ok s) = refl
start_told (Err e) = refl

pub returns : goal.returns
returns c =
    let carried = period_stands_for _ _ _ _ _ (rw c.period_asked.ensures at c.open_rows-opened.ensures) in
    record {
      answer_is = valued _ _ _ c.map.ensures.cases (λ s n p. search rules) (start_told _ ∙ ap change_outcome carried.answer_is) c.number.ensures;
      rows_are = carried.rows_are;
    }
