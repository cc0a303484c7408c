-- What the loops of src/asked.rt find (specs/Asked.antt): at one node, and over all levels, offsets and classes.
-- Assumes nothing.
use Prim.Native.Nat.{ℕ, ◌<◌, ◌≤◌}
use native.Mathlib.Omega.{arith}
use native.Mathlib.Decide.{dec_lt}
use mathlib.Core.Path.{◌≡◌, refl, sym, ◌∙◌, ap}
use mathlib.Core.Logic.{◌↔◌, inl, inr}
use mathlib.Core.Bool.{Bool, true, false, not, true≢false, false≢true, not-eq-not}
use lib.Dec.{eqb}
use borrow.Author.Tests.{eqb-true}
use denote.Enum.Bare.{sameb}
use Rattle.tree.specs.declared.Plan.{Plan}
use Rattle.tree.specs.declared.refusal.Refusal.{Refusal}
use Rattle.tree.specs.declared.refusal.Refusal.TheVariants as refusal
use Rattle.tree.specs.contracts.refusal.Refusal.{the_type}
use Rattle.tree.specs.Search.{all_below}
use Rattle.tree.specs.Tree.{Tree, Place}
use Rattle.tree.specs.Shape.{Legal}
use Rattle.tree.specs.Reason.{Reason, step_does_not_divide, line_stands}
use Rattle.tree.specs.Refusals.{period_out_of_range}
use Rattle.tree.specs.Calls.{open_line, Answer, refused, answer, Outcome, gives, refuses, reason_outcome}
use Rattle.tree.specs.Explained.{EachHasReason, NoneRefusedWith12}
use Rattle.tree.specs.Answered.{number_of}
use Rattle.tree.specs.Record.{tree_of}
use Rattle.tree.proofs.Searching.{all_below_at, all_below_each}
use Rattle.tree.proofs.Reasons.{reasons_exactly}
use Rattle.tree.proofs.ReasonBounds.{lower_class_told, refused_12_within}
use Rattle.paths.proofs.AllBelow.{Tested, tested_fault}
use Rattle.bridge.proofs.TreeOfRecord.{tree_of_legal}
use Rattle.history.specs.Explained.{PassesThree}
use Rattle.history.specs.Asked.{refused_with_12, none_refused_at_node, none_refused_at_level, none_refused, OpenExplained}
use Rattle.history.proofs.Explained.{refused_5_by_12}

-- Refused with 12

with_12 : (o : Outcome Reason) → refused_with_12 o ≡ true → o ≡ refuses 12
unfolding refused_with_12
with_12 (gives r) h = absurd (false≢true h)
with_12 (refuses n) h = ap refuses (eqb-true n 12 h)

-- the code compares the refusal itself, and not its number
refusal_12 : (r : Refusal) → sameb the_type r refusal.NoLineInClass ≡ eqb (number_of r) 12
unfolding number_of
refusal_12 refusal.LineAbove63 = refl
refusal_12 refusal.PeriodOutOfRange = refl
refusal_12 refusal.LineOpen = refl
refusal_12 refusal.LineNotOpen = refl
refusal_12 refusal.NoRoom = refl
refusal_12 refusal.NoOrder = refl
refusal_12 refusal.ListLength = refl
refusal_12 refusal.BufferTooShort = refl
refusal_12 refusal.WalkerAtEnd = refl
refusal_12 refusal.NoNode = refl
refusal_12 refusal.NoClass = refl
refusal_12 refusal.NoLineInClass = refl
refusal_12 refusal.ImageLength = refl
refusal_12 refusal.ImageField = refl
refusal_12 refusal.OpenInBoth = refl
refusal_12 refusal.DoubledPeriodOutOfRange = refl

-- At one node

module _ (p l r : ℕ) (t : Tree) where
  abbrev told : ℕ → Outcome Reason
  told i = reason_outcome p (record { level = l; offset = r }) i t

  -- a class is not refused with 12
  abbrev pub passes : ℕ → Bool
  passes i = not (refused_with_12 (told i))

  pub line_passed : (i L : ℕ) → gives (line_stands L) ≡ told i → passes i ≡ true
  unfolding refused_with_12
  line_passed i L given = rw (← given)

  -- the loop has come to this class, and none before it was refused with 12
  module _ (class : ℕ) (so_far : Tested 4095 passes class) (below : class < 4095) where
    -- where no line stands in this class, it shows whether any class of the node is refused with 12
    stops : (o : Outcome Reason) → o ≡ told class → ((L : ℕ) → o ≡ gives (line_stands L) → ⊥) → not (refused_with_12 o) ≡ none_refused_at_node p l r t
    unfolding none_refused_at_node refused_with_12
    stops o told_is no_line = by_test (refused_with_12 o) refl
      where
        none_later : refused_with_12 o ≡ false → (i : ℕ) → class ≤ i → refused_with_12 (told i) ≡ false
        none_later passed i later =
            not-eq-not.0 λ strikes.
            elim (lower_class_told p (record { level = l; offset = r }) i t (with_12 (told i) strikes) class later) [
              | inl stands ↦ no_line stands.0 (told_is ∙ stands.1)
              | inr twelve ↦ true≢false (sym (ap refused_with_12 (told_is ∙ twelve)) ∙ passed)
            ]

        by_test : (b : Bool) → refused_with_12 o ≡ b → not b ≡ all_below 4095 (λ i. not (refused_with_12 (told i)))
        by_test true strikes = sym (tested_fault so_far below (ap not (ap refused_with_12 (sym told_is) ∙ strikes)))
        by_test false passed =
            sym (all_below_each 4095 _ λ i _.
            elim (dec_lt i class) [ yes before ↦ so_far.gave i before | no later ↦ ap not (none_later passed i (omega arith)) ])

    pub undivided_stops : gives step_does_not_divide ≡ told class → true ≡ none_refused_at_node p l r t
    unfolding refused_with_12
    undivided_stops h = stops (gives step_does_not_divide) h (λ L e. let z : ◌≡◌ {A = ℕ} 0 1 = cc in omega arith)

    pub refusal_stops : (x : Refusal) → refuses (number_of x) ≡ told class → not (sameb the_type x refusal.NoLineInClass) ≡ none_refused_at_node p l r t
    unfolding refused_with_12
    refusal_stops x h = ap not (refusal_12 x) ∙ stops (refuses (number_of x)) h (λ L e. let z : ◌≡◌ {A = ℕ} 0 1 = cc in omega arith)

-- Over all levels, offsets and classes

none_refused_exactly : (p : ℕ) (t : Tree) → Legal t → (none_refused p t ≡ true) ↔ NoneRefusedWith12 (λ b i. reason_outcome p b i t)
unfolding none_refused none_refused_at_level none_refused_at_node refused_with_12 NoneRefusedWith12
none_refused_exactly p t legal = (none_strikes, each_passes)
  where
    none_strikes : none_refused p t ≡ true → (a : Place) (i : ℕ) → reason_outcome p a i t ≡ refuses 12 → ⊥
    none_strikes h a i strikes =
        let within = refused_12_within p a i t strikes legal in
        let at_node = all_below_at 4095 _ (all_below_at 11 _ h a.level within.level_below) a.offset within.offset_below in
        let passed = all_below_at 4095 _ at_node i within.class_below in
        false≢true (sym (ap (λ (o : Outcome Reason). not (refused_with_12 o)) strikes) ∙ passed)

    class_passed : NoneRefusedWith12 (λ b i. reason_outcome p b i t) → (a : Place) (i : ℕ) → not (refused_with_12 (reason_outcome p a i t)) ≡ true
    class_passed none a i =
        let passed : refused_with_12 (reason_outcome p a i t) ≡ false = not-eq-not.0 (λ strikes. none a i (with_12 (reason_outcome p a i t) strikes)) in
        ap not passed

    each_passes : NoneRefusedWith12 (λ b i. reason_outcome p b i t) → none_refused p t ≡ true
    each_passes none =
        all_below_each 11 _ (λ l _. all_below_each 4095 _ (λ r _. all_below_each 4095 _ (λ i _. class_passed none (record { level = l; offset = r }) i)))

module _ (L p : ℕ) (plan : Plan) (a : Answer) (each : Bool) (answered : a ≡ answer (open_line L p) (tree_of plan)) (asked : each ≡ none_refused p (tree_of plan)) where
  none : (each ≡ true) ↔ NoneRefusedWith12 (λ b i. reason_outcome p b i (tree_of plan))
  none = rw asked (none_refused_exactly p (tree_of plan) (tree_of_legal plan))

  each_asked : period_out_of_range p ≡ false → (each ≡ true) ↔ EachHasReason p (tree_of plan) (λ b i. reason_outcome p b i (tree_of plan))
  each_asked inside =
      let reasons = reasons_exactly p (tree_of plan) (tree_of_legal plan) inside in
      (λ h. reasons.1 (none.0 h), λ given. none.1 (reasons.0 given))

  refused_5_asked : PassesThree L p (tree_of plan) → (a ≡ refused 5) ↔ (each ≡ true)
  refused_5_asked passes =
      let twelve = refused_5_by_12 L p (tree_of plan) (tree_of_legal plan) passes in
      (λ five. none.1 (twelve.0 (sym answered ∙ five)), λ h. answered ∙ twelve.1 (none.0 h))

  pub open_asked : OpenExplained L p plan a each
  open_asked = record { answer_is = answered; asked = asked; each_is = each_asked; refused_exactly = refused_5_asked }
