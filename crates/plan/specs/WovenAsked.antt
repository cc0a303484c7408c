-- Two plans woven and then asked (document 02, Ask 10): what owner and show answer of the woven plan, beside what they answer of the two.
-- Assumes nothing.
use Rattle.std.specs.Prelude.{ℕ, ◌/◌, ◌%◌, ◌≡◌, List, eqb, if◌then◌else◌, Option, None, Some, Result, MatchResult}
use Rattle.tree.specs.declared.refusal.Refusal.{Refusal}
use Rattle.tree.specs.Asking.{OwnerOrRest, owned_by, idle_for, owner_or_rest, Shown}
use Rattle.tree.specs.Calls.{Outcome, gives, refuses, show_outcome}
use Rattle.tree.specs.Answered.{number_of, outcome_of}
use Rattle.tree.specs.Lists.{Booking}
use Rattle.tree.specs.Weaving.{woven, weave_refusal, woven_booking}
use Rattle.bridge.specs.Rows.{tree_of_rows}
use Rattle.plan.specs.declared.weave_then_ask.Owners.{Owners}
use Rattle.plan.specs.declared.weave_then_ask.Shows.{Shows}
use Rattle.plan.specs.Ask.{owner_answer, shown_in}

-- the line that owner names, none where the round is idle
unfoldable pub line_named : OwnerOrRest → Option ℕ
line_named (owned_by L) = Some L
line_named (idle_for g) = None

-- the period and the start that show tells, none where it is refused
unfoldable pub times_told : Outcome Shown → Option Booking
times_told (gives s) = Some (record { period = s.period; start = s.start })
times_told (refuses n) = None

module _ (a b : List ℕ) where
  -- Of round n the owner call names the same line, or none, in the woven plan and, of round n / 2, on the side whose round n is.
  pub record OwnersAlike (n : ℕ) (owners : Owners) : Type 0 where
    pub none_refuses : weave_refusal (tree_of_rows a) (tree_of_rows b) ≡ None
    pub woven_is : owner_answer owners.woven ≡ owner_or_rest n (woven (tree_of_rows a) (tree_of_rows b))
    pub side_is : owner_answer owners.side ≡ (if eqb (n % 2) 0 then owner_or_rest (n / 2) (tree_of_rows a) else owner_or_rest (n / 2) (tree_of_rows b))
    pub same_line : line_named (owner_answer owners.woven) ≡ line_named (owner_answer owners.side)

  -- (Ask 10, 4, 6) So it is, or weaving was refused.
  unfoldable pub OwnedAlike : ℕ → Result Owners Refusal → Type 0
  OwnedAlike n r = MatchResult r (OwnersAlike n) (λ e. weave_refusal (tree_of_rows a) (tree_of_rows b) ≡ Some (number_of e))

  -- Of line L show tells the period and the start in the woven plan that are doubled from those in the plan where it is open, and it is refused where it is open in neither.
  pub record ShownAsDoubled (L : ℕ) (shows : Shows) : Type 0 where
    pub none_refuses : weave_refusal (tree_of_rows a) (tree_of_rows b) ≡ None
    pub woven_is : outcome_of shown_in shows.woven ≡ show_outcome L (woven (tree_of_rows a) (tree_of_rows b))
    pub in_a_is : outcome_of shown_in shows.in_a ≡ show_outcome L (tree_of_rows a)
    pub in_b_is : outcome_of shown_in shows.in_b ≡ show_outcome L (tree_of_rows b)
    pub doubled_times : times_told (outcome_of shown_in shows.woven) ≡ woven_booking (times_told (outcome_of shown_in shows.in_a)) (times_told (outcome_of shown_in shows.in_b))

  -- (Ask 10, 4, 6) So it is, or weaving was refused.
  unfoldable pub ShownDoubled : ℕ → Result Shows Refusal → Type 0
  ShownDoubled L r = MatchResult r (ShownAsDoubled L) (λ e. weave_refusal (tree_of_rows a) (tree_of_rows b) ≡ Some (number_of e))
