-- The calls: what each answers, and the tree that an open or a close leaves.
-- Assumes nothing.
use Rattle.std.specs.Prelude.{ℕ, Option, None, Some}
use Rattle.tree.specs.Tree.{Tree, Place}
use Rattle.tree.specs.Opening.{opened, start_given}
use Rattle.tree.specs.Closing.{closed}
use Rattle.tree.specs.Asking.{Shown, shown, turns}
use Rattle.tree.specs.Reason.{Reason, reason}
use Rattle.tree.specs.Refusals.{open_refusal, line_refusal, reason_refusal}

-- Open and close

-- (The lists of demand 3, 1) The calls that change a plan, with any arguments: a line and a period, or a line.
pub data Call : Type 0 where
  open_line : ℕ → ℕ → Call
  close_line : ℕ → Call

-- What such a call answers: booked with a start, done (the line is closed), or refused with a number.
pub data Answer : Type 0 where
  booked : ℕ → Answer
  done : Answer
  refused : ℕ → Answer

-- the number with which a call is refused, if it is
unfoldable pub refusal : Call → Tree → Option ℕ
refusal (open_line L p) t = open_refusal L p t
refusal (close_line L) t = line_refusal L t

-- what a call that is not refused answers
unfoldable pub reply : Call → Tree → Answer
reply (open_line L p) t = booked (start_given p t)
reply (close_line L) t = done

-- the tree that a call which is not refused leaves
unfoldable pub carried_out : Call → Tree → Tree
carried_out (open_line L p) t = opened L p t
carried_out (close_line L) t = closed L t

unfoldable pub answer_unless : Option ℕ → Answer → Answer
answer_unless (Some n) a = refused n
answer_unless None a = a

unfoldable pub tree_unless : Option ℕ → Tree → Tree → Tree
tree_unless (Some n) before after = before
tree_unless None before after = after

-- what the call answers
unfoldable pub answer : Call → Tree → Answer
answer c t = answer_unless (refusal c t) (reply c t)

-- (The lists of demand 3, 14, 15) The tree after the call: carried out, or left alone where it is refused.
unfoldable pub after : Call → Tree → Tree
after c t = tree_unless (refusal c t) t (carried_out c t)

-- Show, turns and reason

-- what a call that asks, writes or reads gives: what it is for, or the number with which it is refused
pub data Outcome (A : Type 0) : Type 0 where
  gives : A → Outcome A
  refuses : ℕ → Outcome A

unfoldable pub gives_unless : {A : Type 0} → Option ℕ → A → Outcome A
gives_unless (Some n) a = refuses n
gives_unless None a = gives a

-- the number with which such a call is refused, if it is
unfoldable pub refusal_of : {A : Type 0} → Outcome A → Option ℕ
refusal_of (gives a) = None
refusal_of (refuses n) = Some n

-- (Ask 9, 4, 7; Ask 10, 6) the tree of a plan after a call that gives a tree: that one, or as it was where the call is refused
unfoldable pub tree_given : Outcome Tree → Tree → Tree
tree_given (gives s) t = s
tree_given (refuses n) t = t

-- (Asking the plan, 3)
unfoldable pub show_outcome : ℕ → Tree → Outcome Shown
show_outcome L t = gives_unless (line_refusal L t) (shown L t)

-- (Ask 1, 2)
unfoldable pub turns_outcome : ℕ → ℕ → ℕ → Tree → Outcome ℕ
turns_outcome L a N t = gives_unless (line_refusal L t) (turns L a N t)

-- (Ask 7, 2, 4)
unfoldable pub reason_outcome : ℕ → Place → ℕ → Tree → Outcome Reason
reason_outcome p a i t = gives_unless (reason_refusal p a i t) (reason p a i t)
