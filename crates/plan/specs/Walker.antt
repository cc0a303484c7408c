-- The walker (document 01, The walker; the rest by document 02, Ask 4): what a call on a place answers, and where it leaves the place.
-- Assumes nothing.
use Rattle.std.specs.Prelude.{ℕ, ◌+◌, ◌≡◌, Bool, ◌||◌, Option, None, Some, Result, eqb, if◌then◌else◌}
use Rattle.tree.specs.Tree.{Tree}
use Rattle.tree.specs.declared.refusal.Refusal.{Refusal}
use Rattle.tree.specs.Asking.{owner, OwnerOrRest, owner_or_rest}
use Rattle.tree.specs.Calls.{Outcome, gives, refuses}
use Rattle.tree.specs.Answered.{outcome_of}
use Rattle.plan.specs.declared.walker.WalkerPlace.{WalkerPlace}
use Rattle.plan.specs.declared.ask.OwnerAnswer.{OwnerAnswer}
use Rattle.plan.specs.Ask.{owner_answer}

-- (Refusals, 9) Either number is 2^64 - 1.
unfoldable pub at_end : WalkerPlace → Bool
at_end place = eqb place.next 18446744073709551615 || eqb place.owned 18446744073709551615

-- (The walker, 2; Ask 4, 4) The call answers the owner of the next round, or its rest.
unfoldable pub walk_outcome : WalkerPlace → Tree → Outcome OwnerOrRest
walk_outcome place t = if at_end place then refuses 9 else gives (owner_or_rest place.next t)

-- (The walker, 2) 1 more if the round was owned
unfoldable pub count_after : Option ℕ → ℕ → ℕ
count_after (Some n) count = count + 1
count_after None count = count

unfoldable pub moved_on : WalkerPlace → Tree → WalkerPlace
moved_on place t = record { next = place.next + 1; owned = count_after (owner place.next t) place.owned }

-- the place after the call, as found where it is refused
unfoldable pub place_after : WalkerPlace → Tree → WalkerPlace
place_after place t = if at_end place then place else moved_on place t

-- a call on a place gave this answer and left this place: both are those of the rules
pub record WalkedOn (place : WalkerPlace) (t : Tree) (a : Result OwnerAnswer Refusal) (after : WalkerPlace) : Type 0 where
  pub answer_is : outcome_of owner_answer a ≡ walk_outcome place t
  pub place_is : after ≡ place_after place t
