-- `gaplinte::change::gaplinte_close` meets its contract, by that of `plan::change::close_rows`.
-- Assumes nothing.
use Rattle.std.specs.Prelude.{Result, Ok, Err}
use mathlib.Core.Path.{◌≡◌, refl, ◌∙◌, ap}
use borrow.Author.Rules.{rules}
use Rattle.tree.specs.declared.refusal.Refusal.{Refusal}
use Rattle.tree.specs.Answered.{outcome_of}
use Rattle.lines.specs.Answers.{close_answer}
use Rattle.gaplinte.specs.Served.{change_outcome}
use Rattle.gaplinte.proofs.Serving.{valued}
use Rattle.gaplinte.proofs.change.gaplinte_close.Goals as goal

-- the value is 0
zero_told : (r : Result Unit Refusal) → outcome_of (λ u. 0) r ≡ change_outcome (close_answer r)
unfolding outcome_of close_answer change_outcome
zero_told (Ok u) = refl
zero_told (Err e) = refl

pub returns : goal.returns
returns c =
    let carried = c.close_rows-closed.ensures in
    record {
      answer_is = valued _ _ _ c.map.ensures.cases (λ u n p. search rules) (zero_told _ ∙ ap change_outcome carried.answer_is) c.number.ensures;
      rows_are = carried.rows_are;
    }
