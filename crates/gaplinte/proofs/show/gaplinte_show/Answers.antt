-- `gaplinte::show::gaplinte_show` meets its contract, by that of `plan::ask::show`.
-- Assumes nothing.
use borrow.Author.Rules.{rules}
use Rattle.plan.specs.Ask.{shown_in}
use Rattle.gaplinte.specs.Served.{shown_numbers}
use Rattle.gaplinte.proofs.Serving.{written}
use Rattle.gaplinte.proofs.show.gaplinte_show.Goals as goal

pub returns : goal.returns
returns c =
    let told = written shown_in shown_numbers _ _ c.show-found.ensures c.map.ensures.cases (λ l ns p. search rules) c.write.ensures.answer c.write.ensures.left in
    record { answer_is = told.answer_is; shown_is = told.numbers_are }
