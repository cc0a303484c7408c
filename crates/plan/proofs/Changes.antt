-- The ways that a call can go on a plan record: it is a tree, or it is none and counts as the empty plan.
-- Assumes nothing.
use Prim.Native.Nat.{ℕ}
use native.Mathlib.Omega.{arith}
use mathlib.Core.Path.{◌≡◌, refl, sym, ◌∙◌, ap}
use mathlib.Core.Bool.{true, false}
use mathlib.Core.List.{List}
use Rattle.bridge.proofs.RecordBlocks.{zeros_are_empty, record_length}
use Rattle.std.specs.Prelude.{Option, None, Some, Ok, Err}
use lib.ListN.{length, replicate}
use Rattle.tree.specs.declared.Plan.{Plan}
use Rattle.tree.specs.Tree.{Tree, nothing}
use Rattle.tree.specs.Shape.{Legal}
use Rattle.tree.specs.Calls.{Call, open_line, close_line, Answer, booked, refused, refusal, reply, carried_out, answer_unless, tree_unless, answer, after}
use Rattle.tree.specs.Record.{legal, tree_of, record_of}
use Rattle.bridge.specs.Rows.{tree_of_rows, rows_unless, rows_after, CarriedOut}
use Rattle.bridge.proofs.TreeOfRecord.{tree_of_legal, tree_of_illegal}
use Rattle.bridge.proofs.RecordRoundTrip.{record_legal, record_has_tree}
use Rattle.bridge.proofs.CarriedLegal.{carried_out_legal}
use Rattle.tree.specs.declared.Start.{Start}
use Rattle.tree.specs.declared.refusal.Refusal.{Refusal}
use Rattle.tree.specs.Answered.{number_of}
use Rattle.lines.specs.Answers.{open_answer}
use Rattle.plan.specs.Meets.{empty_plan, plan_unless, plan_after, Meets}

-- A record that is a tree

pub carried_meets : (c : Call) (plan : Plan) (rows : List ℕ) (a : Answer) → CarriedOut c plan.rows rows a → Meets c plan a (record { rows = rows })
unfolding tree_of_rows rows_after plan_after rows_unless plan_unless
carried_meets c plan rows a h =
    record { answer_is = h.answer_is; plan_is = (λ i. record { rows = h.rows_are i }) ∙ by_refusal (refusal c (tree_of plan)) }
  where
    by_refusal : (o : Option ℕ) → ◌≡◌ {A = Plan} (record { rows = rows_unless o plan.rows (record_of (carried_out c (tree_of plan))).rows }) (plan_unless o plan (record_of (carried_out c (tree_of plan))))
    by_refusal (Some n) = refl
    by_refusal None = refl

-- the plan after a call has the tree that the rules leave
pub plan_after_tree : (c : Call) (plan : Plan) → tree_of (plan_after c plan) ≡ after c (tree_of plan)
unfolding plan_after plan_unless after tree_unless
plan_after_tree c plan = by_refusal (refusal c (tree_of plan)) refl
  where
    by_refusal : (o : Option ℕ) → refusal c (tree_of plan) ≡ o →
        tree_of (plan_unless o plan (record_of (carried_out c (tree_of plan)))) ≡ tree_unless o (tree_of plan) (carried_out c (tree_of plan))
    by_refusal None e = record_has_tree (carried_out c (tree_of plan)) (carried_out_legal c (tree_of plan) (tree_of_legal plan) e)
    by_refusal (Some n) e = refl

-- The empty plan

pub empty_rows : (rows : List ℕ) → rows ≡ replicate 1408 0 → ◌≡◌ {A = Plan} (record { rows = rows }) empty_plan
unfolding empty_plan
empty_rows rows h = λ i. record { rows = (h ∙ zeros_are_empty) i }

pub empty_legal : legal empty_plan.rows ≡ true
unfolding empty_plan Legal
empty_legal = record_legal nothing tt

pub empty_has_all : length empty_plan.rows ≡ 1408
unfolding empty_plan
empty_has_all = record_length nothing

pub empty_tree : tree_of empty_plan ≡ nothing
unfolding empty_plan Legal
empty_tree = record_has_tree nothing tt

-- A record that is none

reply_not_refused : (c : Call) (t : Tree) (n : ℕ) → reply c t ≡ refused n → ⊥
unfolding reply
reply_not_refused (open_line L p) t n h = let z : ◌≡◌ {A = ℕ} 0 1 = cc in omega arith
reply_not_refused (close_line L) t n h = let z : ◌≡◌ {A = ℕ} 0 1 = cc in omega arith

refused_not_booked : (n s : ℕ) → ◌≡◌ {A = Answer} (refused n) (booked s) → ⊥
refused_not_booked n s h = let z : ◌≡◌ {A = ℕ} 0 1 = cc in omega arith

module _ (rows : List ℕ) (not_legal : legal rows ≡ false) where
  -- both have the empty tree
  no_tree : tree_of_rows rows ≡ nothing
  unfolding tree_of_rows
  no_tree = tree_of_illegal (record { rows = rows }) not_legal

  same_tree : tree_of_rows empty_plan.rows ≡ tree_of_rows rows
  unfolding tree_of_rows
  same_tree = empty_tree ∙ sym no_tree

  -- a call that asks, put to the empty plan instead
  pub asked_in_empty : {A : Type 0} (answered : Tree → A) {e : Plan} {a : A} → e ≡ empty_plan → a ≡ answered (tree_of_rows e.rows) → a ≡ answered (tree_of_rows rows)
  asked_in_empty answered {e} {a} empty told = told ∙ ap (λ (plan : Plan). answered (tree_of_rows plan.rows)) empty ∙ ap answered same_tree

  booked_from_empty : (c : Call) (s : ℕ) (after : List ℕ) → CarriedOut c empty_plan.rows after (booked s) → CarriedOut c rows after (booked s)
  unfolding answer answer_unless rows_after rows_unless
  booked_from_empty c s after h =
      record {
        answer_is = told;
        rows_are =
            h.rows_are ∙ ap (λ (t : Tree). rows_unless (refusal c t) empty_plan.rows (record_of (carried_out c t)).rows) same_tree
            ∙ by_refusal (refusal c (tree_of_rows rows)) told;
      }
    where
      told : booked s ≡ answer c (tree_of_rows rows)
      told = h.answer_is ∙ ap (answer c) same_tree

      by_refusal : (o : Option ℕ) → booked s ≡ answer_unless o (reply c (tree_of_rows rows)) →
          rows_unless o empty_plan.rows (record_of (carried_out c (tree_of_rows rows))).rows ≡ rows_unless o rows (record_of (carried_out c (tree_of_rows rows))).rows
      by_refusal (Some n) e = absurd (refused_not_booked n s (sym e))
      by_refusal None e = refl

  refused_from_empty : (c : Call) (n : ℕ) (after : List ℕ) → CarriedOut c empty_plan.rows after (refused n) → CarriedOut c rows rows (refused n)
  unfolding answer answer_unless rows_after rows_unless
  refused_from_empty c n after h = record { answer_is = told; rows_are = by_refusal (refusal c (tree_of_rows rows)) told }
    where
      told : refused n ≡ answer c (tree_of_rows rows)
      told = h.answer_is ∙ ap (answer c) same_tree

      by_refusal : (o : Option ℕ) → refused n ≡ answer_unless o (reply c (tree_of_rows rows)) → rows ≡ rows_unless o rows (record_of (carried_out c (tree_of_rows rows))).rows
      by_refusal (Some m) e = refl
      by_refusal None e = absurd (reply_not_refused c (tree_of_rows rows) n (sym e))

  -- an open that was made in the empty plan instead
  module _ (L p : ℕ) (e : Plan) (after : List ℕ) (empty : e ≡ empty_plan) where
    pub open_was_booked : (s : Start) → CarriedOut (open_line L p) e.rows after (open_answer (Ok s)) → CarriedOut (open_line L p) rows after (open_answer (Ok s))
    unfolding open_answer
    open_was_booked s opened = booked_from_empty (open_line L p) s.0 after (rw empty at opened)

    pub open_was_refused : (r : Refusal) → CarriedOut (open_line L p) e.rows after (open_answer (Err r)) → CarriedOut (open_line L p) rows rows (open_answer (Err r))
    unfolding open_answer
    open_was_refused r opened = refused_from_empty (open_line L p) (number_of r) after (rw empty at opened)
