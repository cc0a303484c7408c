-- `gaplinte::list::gaplinte_run_list` meets its contract, by that of `lists::run_list_rows`.
-- Assumes nothing.
use mathlib.Core.Path.{◌∙◌, ap}
use borrow.Author.Rules.{rules}
use Rattle.gaplinte.specs.Served.{list_outcome}
use Rattle.gaplinte.proofs.Serving.{valued, done_told}
use Rattle.gaplinte.proofs.list.gaplinte_run_list.Goals as goal

pub returns : goal.returns
unfolding list_outcome
returns c =
    let ran = c.run_list_rows-ran.ensures in
    record {
      answer_is = valued _ _ _ c.map.ensures.cases (λ u n p. search rules) (done_told _ ∙ ap list_outcome ran.refusal_is) c.number.ensures;
      rows_are = λ i. (ran.plan_is i).rows;
      bytes_are = ran.bytes_are;
    }
