-- `gaplinte::reason::gaplinte_reason` meets its contract, by that of `plan::reason::reason` for the period as open takes it: a line is small.
-- Assumes nothing.
use Rattle.std.specs.Prelude.{Result, Ok, Err}
use native.Mathlib.Omega.{arith}
use mathlib.Core.Path.{◌≡◌, refl, ◌∙◌, ap}
use borrow.Author.Rules.{rules}
use Rattle.tree.specs.declared.refusal.Refusal.{Refusal}
use Rattle.tree.specs.Answered.{outcome_of}
use Rattle.bridge.proofs.PeriodAsked.{reason_stands_for}
use Rattle.reasons.specs.declared.Reason.{Reason}
use Rattle.reasons.specs.Answers.{reason_told}
use Rattle.gaplinte.specs.Served.{reason_value, reason_number}
use Rattle.gaplinte.proofs.Serving.{mapped, if_mapped, if_given, valued}
use Rattle.gaplinte.proofs.ValuesBelow.{reason_given}
use Rattle.gaplinte.proofs.reason.gaplinte_reason.Goals as goal

-- the value is the number for the reason
value_told : (r : Result Reason Refusal) → outcome_of (λ told. reason_value (reason_told told)) r ≡ reason_number (outcome_of reason_told r)
unfolding outcome_of reason_number
value_told (Ok told) = refl
value_told (Err e) = refl

pub number-requires : goal.number-requires
number-requires c =
    let same = mapped (λ told. reason_value (reason_told told)) c.reason-told.result c.map.result c.map.ensures.cases λ told n p. search rules in
    if_mapped _ _ _ _ same (if_given _ _ _ c.reason-told.ensures λ told given. omega (arith, reason_given _ _ _ _ _ given))

pub returns : goal.returns
returns c =
    let told = rw c.period_asked.ensures at c.reason-told.ensures ∙ reason_stands_for _ _ _ _ in
    valued _ _ _ c.map.ensures.cases (λ told n p. search rules) (value_told _ ∙ ap reason_number told) c.number.ensures
