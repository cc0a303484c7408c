-- Two plans woven and then asked (specs/WovenAsked.antt): what owner and show answer of the woven plan is what they answer of its sides.
-- Assumes nothing.
use Prim.Native.Nat.{ℕ, ◌/◌, ◌%◌}
use mathlib.Core.Path.{◌≡◌, refl, sym, ◌∙◌, ap, ap₂}
use mathlib.Core.Bool.{Bool, true, false}
use mathlib.Core.List.{List}
use lib.Dec.{eqb}
use borrow.Author.Tests.{eq-eqb, ne_eqb}
use Rattle.std.specs.Prelude.{if◌then◌else◌, Option, None, Some, Result, Ok, Err}
use Rattle.tree.specs.declared.Plan.{Plan}
use Rattle.tree.specs.declared.refusal.Refusal.{Refusal}
use Rattle.tree.specs.declared.Row.{Row}
use Rattle.tree.specs.Search.{found}
use Rattle.tree.specs.Tree.{Tree, path, is_open, path_of, period_of, start_of}
use Rattle.tree.specs.Shape.{Legal}
use Rattle.tree.specs.Asking.{owner, rest, or_rest, owner_or_rest, shown}
use Rattle.tree.specs.Calls.{gives_unless, show_outcome}
use Rattle.tree.specs.Answered.{number_of, outcome_of}
use Rattle.tree.specs.Lists.{ledger_of_tree}
use Rattle.tree.specs.Weaving.{weave_refusal, weave_outcome, woven_booking}
use Rattle.tree.proofs.Checks.{close_allowed, close_refused, refused_by}
use Rattle.tree.proofs.Numbering.{stands_number}
use Rattle.tree.proofs.Standing.{open_stands}
use Rattle.tree.proofs.WovenLines.{woven_bookings}
use Rattle.tree.proofs.WovenOwner.{woven_owner}
use Rattle.bridge.specs.Rows.{tree_of_rows}
use Rattle.bridge.proofs.PlanGiven.{refused_with}
use Rattle.bridge.proofs.TreeOfRecord.{legal_on_record}
use Rattle.weaving.specs.Sides.{PlansWoven}
use Rattle.weaving.proofs.WovenPlan.{none_refuses, tree_woven}
use Rattle.plan.specs.declared.ask.OwnerAnswer.{OwnerAnswer}
use Rattle.plan.specs.declared.ask.Shown.{Shown as ShownLine}
use Rattle.plan.specs.Ask.{owner_answer, shown_in}
use Rattle.plan.specs.WovenAsked.{line_named, times_told, OwnersAlike, ShownAsDoubled}

-- What one tree answers

named_owner : (n : ℕ) (t : Tree) → line_named (owner_or_rest n t) ≡ owner n t
unfolding line_named owner_or_rest or_rest
named_owner n t = by_owner (owner n t)
  where
    by_owner : (o : Option ℕ) → line_named (or_rest o (rest n t)) ≡ o
    by_owner None = refl
    by_owner (Some L) = refl

-- show tells what the ledger that begins at the tree has
told_times : (L : ℕ) (t : Tree) → Legal t → times_told (show_outcome L t) ≡ ledger_of_tree t L
unfolding times_told show_outcome gives_unless shown period_of start_of path_of ledger_of_tree is_open found
told_times L t legal = by_path (path L t) refl
  where
    by_path : (o : Option (List Row)) → path L t ≡ o → times_told (show_outcome L t) ≡ ledger_of_tree t L
    by_path None e = rw (close_refused L t (ap found e), e)
    by_path (Some rs) e =
        let below = stands_number L t _ _ legal (open_stands L t (ap found e)) in
        rw (close_allowed L t below (ap found e), e)

-- an even round is one of plan A, an odd one of plan B
pub side_even : {A : Type 0} {x a : A} (b : A) (n : ℕ) → n % 2 ≡ 0 → x ≡ a → x ≡ (if eqb (n % 2) 0 then a else b)
side_even b n even is = rw (eq-eqb (n % 2) 0 even) is

pub side_odd : {A : Type 0} {x b : A} (a : A) (n : ℕ) → (n % 2 ≡ 0 → ⊥) → x ≡ b → x ≡ (if eqb (n % 2) 0 then a else b)
side_odd a n odd is = rw (ne_eqb (n % 2) 0 odd) is

module _ (a b : List ℕ) where
  pub weaving_refused : (e : Refusal) → PlansWoven a b (Err e) → weave_refusal (tree_of_rows a) (tree_of_rows b) ≡ Some (number_of e)
  unfolding PlansWoven outcome_of weave_outcome
  weaving_refused e told = refused_by _ _ _ (refused_with _ _ told)

  module _ (plan : Plan) (told : PlansWoven a b (Ok plan)) where
    pub owners_alike : (n : ℕ) (w s : OwnerAnswer) → owner_answer w ≡ owner_or_rest n (tree_of_rows plan.rows) →
        owner_answer s ≡ (if eqb (n % 2) 0 then owner_or_rest (n / 2) (tree_of_rows a) else owner_or_rest (n / 2) (tree_of_rows b)) →
        OwnersAlike a b n (record { woven = w; side = s })
    owners_alike n w s woven_is side_is =
        let woven_told = woven_is ∙ ap (owner_or_rest n) (tree_woven a b plan told) in
        record {
          none_refuses = none_refuses a b plan told;
          woven_is = woven_told;
          side_is = side_is;
          same_line =
              ap line_named woven_told ∙ named_owner n _ ∙ woven_owner _ _ n (legal_on_record a) (legal_on_record b)
              ∙ sym (ap line_named side_is ∙ by_side (eqb (n % 2) 0));
        }
      where
        by_side : (even : Bool) →
            line_named (if even then owner_or_rest (n / 2) (tree_of_rows a) else owner_or_rest (n / 2) (tree_of_rows b))
            ≡ (if even then owner (n / 2) (tree_of_rows a) else owner (n / 2) (tree_of_rows b))
        by_side true = named_owner (n / 2) (tree_of_rows a)
        by_side false = named_owner (n / 2) (tree_of_rows b)

    pub shown_as_doubled : (L : ℕ) (w p q : Result ShownLine Refusal) → outcome_of shown_in w ≡ show_outcome L (tree_of_rows plan.rows) →
        outcome_of shown_in p ≡ show_outcome L (tree_of_rows a) → outcome_of shown_in q ≡ show_outcome L (tree_of_rows b) →
        ShownAsDoubled a b L (record { woven = w; in_a = p; in_b = q })
    shown_as_doubled L w p q woven_is in_a_is in_b_is =
        let woven_told = woven_is ∙ ap (show_outcome L) (tree_woven a b plan told) in
        let times_a = ap times_told in_a_is ∙ told_times L _ (legal_on_record a) in
        let times_b = ap times_told in_b_is ∙ told_times L _ (legal_on_record b) in
        record {
          none_refuses = none_refuses a b plan told;
          woven_is = woven_told;
          in_a_is = in_a_is;
          in_b_is = in_b_is;
          doubled_times =
              ap times_told woven_told ∙ told_times L _ (rw (sym (tree_woven a b plan told)) (legal_on_record plan.rows))
              ∙ woven_bookings _ _ L (legal_on_record a) (legal_on_record b) ∙ sym (ap₂ woven_booking times_a times_b);
        }
