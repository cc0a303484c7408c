-- `gaplinte::weave::gaplinte_weave` meets its contract, by that of `plan::weave::weave`.
-- Assumes nothing.
use Prim.Native.Nat.{ℕ}
use mathlib.Core.Path.{◌≡◌, refl, ◌∙◌, ap}
use mathlib.Core.List.{List}
use borrow.Author.Rules.{rules}
use Rattle.tree.specs.declared.Plan.{Plan}
use Rattle.tree.specs.Tree.{Tree}
use Rattle.tree.specs.Calls.{Outcome, gives, refuses}
use Rattle.bridge.specs.Rows.{plan_given, rows_given}
use Rattle.weaving.specs.Sides.{PlansWoven}
use Rattle.gaplinte.specs.Answer.{answer_number, zero_value, numbers_or}
use Rattle.gaplinte.proofs.Serving.{written}
use Rattle.gaplinte.proofs.weave.gaplinte_weave.Goals as goal

-- the value and the numbers are those of the tree that is given
same_value : (o : Outcome Tree) → zero_value (plan_given o) ≡ zero_value o
unfolding plan_given zero_value
same_value (gives t) = refl
same_value (refuses n) = refl

same_numbers : (o : Outcome Tree) (lent : List ℕ) → numbers_or (λ (plan : Plan). plan.rows) lent (plan_given o) ≡ rows_given o lent
unfolding plan_given rows_given numbers_or
same_numbers (gives t) lent = refl
same_numbers (refuses n) lent = refl

pub returns : goal.returns
unfolding PlansWoven
returns c =
    let told = written (λ (plan : Plan). plan) (λ (plan : Plan). plan.rows) _ _ c.weave-given.ensures c.map.ensures.cases (λ plan ns p. search rules) c.write.ensures.answer c.write.ensures.left in
    record { answer_is = told.answer_is ∙ ap answer_number (same_value _); rows_are = told.numbers_are ∙ same_numbers _ _ }
