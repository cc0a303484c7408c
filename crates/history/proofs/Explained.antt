-- A 5 and its reasons, of the calls themselves (specs/Explained.antt): by value, on a lent record, and of the library.
-- Assumes nothing.
use Rattle.std.specs.Prelude.{if◌then◌else◌, Option, None, Some}
use Prim.Native.Nat.{ℕ}
use native.Mathlib.Omega.{arith}
use native.Mathlib.Nat.{lt_of_lt_of_le}
use mathlib.Core.Path.{◌≡◌, refl, sym, ◌∙◌, ap}
use mathlib.Core.Logic.{◌↔◌}
use lib.IntN.{ℤ, pos, negsuc}
use lib.Dec.{ltb}
use borrow.Author.Tests.{le-ltb}
use Rattle.tree.specs.Tree.{Tree, Place}
use Rattle.tree.specs.Shape.{Legal}
use Rattle.tree.specs.Reason.{Reason, step_does_not_divide, line_stands}
use Rattle.tree.specs.Refusals.{open_refusal}
use Rattle.tree.specs.Calls.{open_line, Answer, refused, refusal, reply, answer_unless, answer, Outcome, gives, refuses, reason_outcome}
use Rattle.tree.specs.Explained.{TrueOf, EachHasReason, NoneRefusedWith12}
use Rattle.tree.specs.Record.{tree_of}
use Rattle.tree.proofs.Standing.{open_stands}
use Rattle.tree.proofs.Numbering.{stands_number}
use Rattle.tree.proofs.Demand3.{answer_refused}
use Rattle.tree.proofs.Reasons.{given_not_refused, reason_is_true, reasons_exactly, refused_5_explained, period_inside}
use Rattle.tree.proofs.ReasonBounds.{class_of_12, refused_12_within}
use Rattle.bridge.specs.Rows.{tree_of_rows}
use Rattle.bridge.proofs.TreeOfRecord.{tree_of_legal, legal_on_record}
use Rattle.gaplinte.specs.Answer.{outcome_told}
use Rattle.gaplinte.specs.Served.{reason_value, reason_number}
use Rattle.gaplinte.proofs.Told.{reason_tells}
use Rattle.history.specs.Explained.{PassesThree, Askable, EachAskedHasReason, NoneAskedRefusedWith12, Explains, ExplainedByCalls, ExplainedByRows, reason_read, ExplainedByLibrary}
use Rattle.history.proofs.Demand3OfLibrary.{served_is_carried_out}

-- By the answers that the rules give

-- an answer that is a refusal is the refusal of the checks
refused_by_checks : (L p n : ℕ) (t : Tree) → answer (open_line L p) t ≡ refused n → open_refusal L p t ≡ Some n
unfolding answer answer_unless reply refusal
refused_by_checks L p n t h = by_refusal (open_refusal L p t) h
  where
    by_refusal : (o : Option ℕ) → answer_unless o (reply (open_line L p) t) ≡ refused n → o ≡ Some n
    by_refusal (Some k) e = (cc)
    by_refusal None e = let z : ◌≡◌ {A = ℕ} 0 1 = cc in absurd (omega arith)

-- what is refused with 12 can be asked for
twelve_askable : (p : ℕ) (b : Place) (i : ℕ) (t : Tree) → Legal t → reason_outcome p b i t ≡ refuses 12 → Askable b i
twelve_askable p b i t legal h =
    let within = refused_12_within p b i t h legal in
    record {
      level_fits = lt_of_lt_of_le within.level_below (omega arith);
      offset_fits = lt_of_lt_of_le within.offset_below (omega arith);
      class_fits = lt_of_lt_of_le within.class_below (omega arith);
    }

module _ (L p : ℕ) (t : Tree) (legal : Legal t) (passes : PassesThree L p t) where
  abbrev by_the_rules : Place → ℕ → Outcome Reason
  by_the_rules b i = reason_outcome p b i t

  refused_5_by_reasons : (answer (open_line L p) t ≡ refused 5) ↔ EachHasReason p t by_the_rules
  unfolding refusal
  refused_5_by_reasons =
      let five = refused_5_explained L p t legal passes.not_empty passes.passed in
      (λ h. five.0 (refused_by_checks L p 5 t h), λ reasons. answer_refused (open_line L p) t 5 (five.1 reasons))

  pub refused_5_by_12 : (answer (open_line L p) t ≡ refused 5) ↔ NoneRefusedWith12 by_the_rules
  refused_5_by_12 =
      let twelve = reasons_exactly p t legal (period_inside L p _ passes.passed) in
      (λ h. twelve.0 (refused_5_by_reasons.0 h), λ none. refused_5_by_reasons.1 (twelve.1 none))

  -- where no class that can be asked for is refused with 12, none is, and the open is refused with 5
  refused_5_unless_12 : ((b : Place) (i : ℕ) → Askable b i → by_the_rules b i ≡ refuses 12 → ⊥) → answer (open_line L p) t ≡ refused 5
  unfolding NoneRefusedWith12
  refused_5_unless_12 none = refused_5_by_12.1 (λ b i h. none b i (twelve_askable p b i t legal h) h)

  -- answers that are those of the rules
  module _ (a : Answer) (told : Place → ℕ → Outcome Reason) (answered : a ≡ answer (open_line L p) t) (each : (b : Place) (i : ℕ) → Askable b i → told b i ≡ reason_outcome p b i t) where
    five_by_reasons : (a ≡ refused 5) ↔ EachAskedHasReason p t told
    unfolding EachHasReason EachAskedHasReason
    five_by_reasons = (each_given, none_missing)
      where
        each_given : a ≡ refused 5 → EachAskedHasReason p t told
        each_given h b i askable class = let x = refused_5_by_reasons.0 (sym answered ∙ h) b i class in (x.0, each b i askable ∙ x.1)

        none_missing : EachAskedHasReason p t told → a ≡ refused 5
        none_missing reasons =
            answered ∙ refused_5_unless_12 λ b i askable h.
            let x = reasons b i askable (class_of_12 p b i t h) in
            given_not_refused x.0 12 (sym x.1 ∙ each b i askable ∙ h)

    five_by_calls : (a ≡ refused 5) ↔ NoneAskedRefusedWith12 told
    unfolding NoneRefusedWith12 NoneAskedRefusedWith12
    five_by_calls = (
      λ five b i askable h. refused_5_by_12.0 (sym answered ∙ five) b i (sym (each b i askable) ∙ h),
      λ none. answered ∙ refused_5_unless_12 (λ b i askable h. none b i askable (each b i askable ∙ h)),
    )

    answers_explain : Explains p t (a ≡ refused 5) told
    answers_explain =
        record {
          by_reasons = five_by_reasons;
          by_calls = five_by_calls;
          true_reasons = λ b i r askable h. reason_is_true p b i t legal r (sym (each b i askable) ∙ h);
        }

pub explained_by_calls : ExplainedByCalls
unfolding ExplainedByCalls
explained_by_calls L p plan after a told opened each passes =
    answers_explain L p (tree_of plan) (tree_of_legal plan) passes a _ opened.answer_is each

pub explained_by_rows : ExplainedByRows
unfolding ExplainedByRows
explained_by_rows L p rows after a told carried each passes =
    answers_explain L p (tree_of_rows rows) (legal_on_record rows) passes a _ carried.answer_is each

-- In the library: what is read out of a number is what the rules give

reason_of_number : Outcome ℕ → Outcome Reason
reason_of_number (gives n) = gives (if ltb 63 n then step_does_not_divide else line_stands n)
reason_of_number (refuses n) = refuses n

read_of_told : (r : ℤ) → reason_read r ≡ reason_of_number (outcome_told r)
unfolding reason_read reason_of_number outcome_told
read_of_told (pos n) = refl
read_of_told (negsuc n) = refl

-- a line is at most 63, and 64 is none
number_of_reason : (p : ℕ) (b : Place) (i : ℕ) (t : Tree) → Legal t → reason_of_number (reason_number (reason_outcome p b i t)) ≡ reason_outcome p b i t
unfolding reason_of_number reason_number reason_value TrueOf
number_of_reason p b i t legal = by_outcome (reason_outcome p b i t) refl
  where
    by_outcome : (o : Outcome Reason) → reason_outcome p b i t ≡ o → reason_of_number (reason_number o) ≡ o
    by_outcome (refuses n) e = refl
    by_outcome (gives step_does_not_divide) e = refl
    by_outcome (gives (line_stands L)) e =
        let stands = reason_is_true p b i t legal (line_stands L) e in
        rw (le-ltb 63 L (stands_number L t _ _ legal (open_stands L t stands.is_open_line)))

pub explained_by_library : ExplainedByLibrary
unfolding ExplainedByLibrary
explained_by_library L p rows after r told served each passes =
    answers_explain L p (tree_of_rows rows) (legal_on_record rows) passes _ _ (served_is_carried_out (open_line L p) rows after r served).answer_is
    λ b i askable. read_of_told (told b i) ∙ ap reason_of_number (reason_tells p b i (tree_of_rows rows) (told b i) (each b i askable)).told_is ∙ number_of_reason p b i (tree_of_rows rows) (legal_on_record rows)
