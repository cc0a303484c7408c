-- A trial in the library and then the open (specs/TriedInLibrary.antt): what is read out of the numbers is what the rules give, so the open does what was read.
-- Assumes nothing.
use Rattle.std.specs.Prelude.{if◌then◌else◌, Option, None, Some}
use Prim.Native.Nat.{ℕ, zero, suc, ◌<◌}
use native.Mathlib.Omega.{arith}
use mathlib.Core.Path.{◌≡◌, refl, ap}
use mathlib.Core.Bool.{Bool, true, false}
use mathlib.Core.List.{List}
use lib.Dec.{eqb}
use lib.IntN.{pos, neg_ℤ}
use Rattle.tree.specs.Refusals.{open_refusal}
use Rattle.tree.specs.Calls.{open_line, refusal, gives, refuses, gives_unless}
use Rattle.tree.specs.Trial.{Trial, trial, trial_outcome}
use Rattle.bridge.specs.Rows.{tree_of_rows}
use Rattle.plan.proofs.Trials.{open_rows_as_told}
use Rattle.lists.proofs.AnswersFit.{Small, refusal_small}
use Rattle.gaplinte.specs.Answer.{answer_number, zero_value, numbers_or}
use Rattle.gaplinte.specs.Served.{tried_numbers}
use Rattle.history.specs.TriedInLibrary.{tried_told, OpenedAsTriedInLibrary}
use Rattle.history.proofs.Demand3OfLibrary.{served_is_carried_out}

-- What is read out of a trial

-- the figures: 1 is read as a split, 0 as none
figures_are_told : (told : Trial) → tried_told (pos 0) (tried_numbers told) ≡ gives told
unfolding tried_told tried_numbers
figures_are_told told = ap (λ (b : Bool). gives (record { start = told.start; added = told.added; split = b })) (one_is_split told.split)
  where
    one_is_split : (b : Bool) → eqb (if b then 1 else 0) 1 ≡ b
    one_is_split true = refl
    one_is_split false = refl

refusal_is_told : (n : ℕ) (tried : List ℕ) → 0 < n → tried_told (neg_ℤ (pos n)) tried ≡ refuses n
unfolding tried_told
refusal_is_told zero tried positive = absurd (omega arith)
refusal_is_told (suc n) tried positive = refl

outcome_is_told : (L p : ℕ) (rows lent : List ℕ) → let o = trial_outcome L p (tree_of_rows rows) in tried_told (answer_number (zero_value o)) (numbers_or tried_numbers lent o) ≡ o
unfolding trial_outcome gives_unless answer_number zero_value numbers_or Small refusal
outcome_is_told L p rows lent = by_refusal (open_refusal L p (tree_of_rows rows)) (refusal_small (open_line L p) (tree_of_rows rows))
  where
    by_refusal : (o : Option ℕ) → Small o →
        let told = gives_unless o (trial L p (tree_of_rows rows)) in tried_told (answer_number (zero_value told)) (numbers_or tried_numbers lent told) ≡ told
    by_refusal None small = figures_are_told (trial L p (tree_of_rows rows))
    by_refusal (Some n) small = refusal_is_told n lent small.0

-- The open after it

pub opened_as_tried_in_library : OpenedAsTriedInLibrary
unfolding OpenedAsTriedInLibrary
opened_as_tried_in_library L p before lent tried after r s told served =
    rw (told.answer_is, told.tried_is, outcome_is_told L p before lent)
    (open_rows_as_told L p before after _ (served_is_carried_out (open_line L p) before after s served))
