-- `gaplinte::walk::gaplinte_walk` meets its contract, by that of `plan::walker::walk`: a line and a rest are small.
-- Assumes nothing.
use Rattle.std.specs.Prelude.{Result, Ok, Err}
use native.Mathlib.Omega.{arith}
use mathlib.Core.Path.{◌≡◌, refl, ◌∙◌, ap}
use borrow.Author.Rules.{rules}
use Rattle.tree.specs.declared.refusal.Refusal.{Refusal}
use Rattle.tree.specs.Answered.{outcome_of}
use Rattle.bridge.proofs.TreeOfRecord.{legal_on_record}
use Rattle.plan.specs.declared.ask.OwnerAnswer.{OwnerAnswer}
use Rattle.plan.specs.Ask.{owner_answer}
use Rattle.gaplinte.specs.Served.{owner_value, walk_value, place_of, place_numbers}
use Rattle.gaplinte.proofs.Serving.{mapped, if_mapped, if_given, valued}
use Rattle.gaplinte.proofs.ValuesBelow.{walk_given}
use Rattle.gaplinte.proofs.walk.gaplinte_walk.Goals as goal

-- the value is the number for the owner
value_told : (r : Result OwnerAnswer Refusal) → outcome_of (λ o. owner_value (owner_answer o)) r ≡ walk_value (outcome_of owner_answer r)
unfolding outcome_of walk_value
value_told (Ok o) = refl
value_told (Err e) = refl

pub number-requires : goal.number-requires
number-requires c =
    let same = mapped (λ o. owner_value (owner_answer o)) c.walk-walked.result.answer c.map.result c.map.ensures.cases λ o n p. search rules in
    if_mapped _ _ _ _ same (if_given _ _ _ c.walk-walked.ensures.answer_is λ o given. omega (arith, walk_given _ _ _ (legal_on_record _) given))

pub returns : goal.returns
unfolding place_of place_numbers
returns c =
    let walked = c.walk-walked.ensures in
    record {
      answer_is = valued _ _ _ c.map.ensures.cases (λ o n p. search rules) (value_told _ ∙ ap walk_value walked.answer_is) c.number.ensures;
      place_is = ap place_numbers walked.place_is;
    }
