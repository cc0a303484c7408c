-- A 5 and its reasons, of the calls themselves (document 02, Ask 7): an open on a plan, and what `reason` answers on that plan at each level, offset and
-- class. Every answer is one that its call's contract allows.
-- Assumes nothing.
use Rattle.std.specs.Prelude.{ℕ, suc, ◌^◌, ◌<◌, ◌≡◌, ◌↔◌, true, List, Result, None, ltb, if◌then◌else◌, ℤ, pos, negsuc}
use Rattle.tree.specs.declared.Plan.{Plan}
use Rattle.tree.specs.declared.refusal.Refusal.{Refusal}
use Rattle.tree.specs.Tree.{Tree, present, is_open, Place}
use Rattle.tree.specs.Reason.{Reason, step_does_not_divide, line_stands}
use Rattle.tree.specs.Refusals.{first_refusal, earlier_checks}
use Rattle.tree.specs.Calls.{open_line, Answer, refused, Outcome, gives, refuses, reason_outcome}
use Rattle.tree.specs.Explained.{TrueOf, ClassOfNode}
use Rattle.tree.specs.Answered.{outcome_of}
use Rattle.tree.specs.Record.{tree_of}
use Rattle.bridge.specs.Rows.{tree_of_rows, CarriedOut}
use Rattle.reasons.specs.declared.Reason.{Reason as Told}
use Rattle.reasons.specs.Answers.{reason_told}
use Rattle.plan.specs.Meets.{Meets}
use Rattle.gaplinte.specs.Answer.{answer_number}
use Rattle.gaplinte.specs.Served.{ChangeServed, reason_number}
use Rattle.history.specs.RanInLibrary.{answer_told}

-- (Ask 7, 3) The plan is not empty, and an open of line L with period p passes the checks 1, 2 and 3.
pub record PassesThree (L p : ℕ) (t : Tree) : Type 0 where
  pub not_empty : present t ≡ true
  pub passed : first_refusal (earlier_checks L p (is_open L t)) ≡ None

-- (Ask 7, 2) A level, an offset and a class that can be asked for: numbers of 64 bits. Every node has such ones, and every class below a d is one.
pub record Askable (b : Place) (i : ℕ) : Type 0 where
  pub level_fits : b.level < 2 ^ 64
  pub offset_fits : b.offset < 2 ^ 64
  pub class_fits : i < 2 ^ 64

-- (Ask 7, 3) Each class of each node has a reason for period p, where the call answers so (`EachHasReason`).
unfoldable pub EachAskedHasReason : ℕ → Tree → (Place → ℕ → Outcome Reason) → Type 0
EachAskedHasReason p t told = (b : Place) (i : ℕ) → Askable b i → ClassOfNode p b i t → (r : Reason) × (told b i ≡ gives r)

-- (Ask 7, 3, 4) None of the calls was refused with 12 (`NoneRefusedWith12`).
unfoldable pub NoneAskedRefusedWith12 : (Place → ℕ → Outcome Reason) → Type 0
NoneAskedRefusedWith12 told = (b : Place) (i : ℕ) → Askable b i → told b i ≡ refuses 12 → ⊥

-- (Ask 7, 3) What is claimed of an open with period p and of the answers of reason on its tree; `refused_5` says that the open was refused with 5.
pub record Explains (p : ℕ) (t : Tree) (refused_5 : Type 0) (told : Place → ℕ → Outcome Reason) : Type 0 where
  -- it was exactly when each class of each node has a reason
  pub by_reasons : refused_5 ↔ EachAskedHasReason p t told
  -- by the calls alone: exactly when none of them was refused with 12
  pub by_calls : refused_5 ↔ NoneAskedRefusedWith12 told
  -- and each reason is true of the tree
  pub true_reasons : (b : Place) (i : ℕ) (r : Reason) → Askable b i → told b i ≡ gives r → TrueOf p b i t r

-- the claim of the calls by value, on every plan record
unfoldable pub ExplainedByCalls : Type 0
ExplainedByCalls =
    (L p : ℕ) (plan after : Plan) (a : Answer) (told : Place → ℕ → Result Told Refusal) → Meets (open_line L p) plan a after →
    ((b : Place) (i : ℕ) → Askable b i → outcome_of reason_told (told b i) ≡ reason_outcome p b i (tree_of plan)) →
    PassesThree L p (tree_of plan) → Explains p (tree_of plan) (a ≡ refused 5) (λ b i. outcome_of reason_told (told b i))

-- of the calls on a lent record, whatever numbers it has
unfoldable pub ExplainedByRows : Type 0
ExplainedByRows =
    (L p : ℕ) (rows after : List ℕ) (a : Answer) (told : Place → ℕ → Result Told Refusal) → CarriedOut (open_line L p) rows after a →
    ((b : Place) (i : ℕ) → Askable b i → outcome_of reason_told (told b i) ≡ reason_outcome p b i (tree_of_rows rows)) →
    PassesThree L p (tree_of_rows rows) → Explains p (tree_of_rows rows) (a ≡ refused 5) (λ b i. outcome_of reason_told (told b i))

-- What a caller of the library reads out of the number of `gaplinte_reason`: a line, or 64 where the step does not divide; below 0 is minus the refusal.
unfoldable pub reason_read : ℤ → Outcome Reason
reason_read (pos n) = gives (if ltb 63 n then step_does_not_divide else line_stands n)
reason_read (negsuc n) = refuses (suc n)

-- of the exported calls: `gaplinte_open` answered r, and `gaplinte_reason` the numbers `told`
unfoldable pub ExplainedByLibrary : Type 0
ExplainedByLibrary =
    (L p : ℕ) (rows after : List ℕ) (r : ℤ) (told : Place → ℕ → ℤ) → ChangeServed (open_line L p) rows after r →
    ((b : Place) (i : ℕ) → Askable b i → told b i ≡ answer_number (reason_number (reason_outcome p b i (tree_of_rows rows)))) →
    PassesThree L p (tree_of_rows rows) → Explains p (tree_of_rows rows) (answer_told (open_line L p) r ≡ refused 5) (λ b i. reason_read (told b i))
