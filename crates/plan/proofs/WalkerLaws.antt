-- The ways that a walker call can go.
-- Assumes nothing.
use Prim.Native.Nat.{ℕ, ◌+◌}
use mathlib.Core.Path.{◌≡◌}
use mathlib.Core.Bool.{true, false}
use borrow.Author.Tests.{ne_eqb}
use Rattle.std.specs.Prelude.{Ok, Err}
use Rattle.tree.specs.declared.refusal.Refusal.TheVariants.{WalkerAtEnd}
use Rattle.tree.specs.Tree.{Tree}
use Rattle.tree.specs.Answered.{number_of, outcome_of}
use Rattle.tree.specs.Asking.{owned_by, idle_for, owner_or_rest}
use Rattle.tree.proofs.Resting.{owned_exactly, idle_exactly}
use Rattle.plan.specs.declared.walker.WalkerPlace.{WalkerPlace}
use Rattle.plan.specs.declared.ask.OwnerAnswer.TheVariants.{Line, Idle}
use Rattle.plan.specs.Ask.{owner_answer}
use Rattle.plan.specs.Walker.{at_end, walk_outcome, count_after, moved_on, place_after, WalkedOn}

module _ (place : WalkerPlace) (t : Tree) where
  walk_refused : at_end place ≡ true → WalkedOn place t (Err WalkerAtEnd) place
  unfolding outcome_of number_of walk_outcome place_after
  walk_refused ended = record { answer_is = rw ended; place_is = rw ended }

  pub walk_refused_by_round : place.next ≡ 18446744073709551615 → WalkedOn place t (Err WalkerAtEnd) place
  unfolding at_end
  walk_refused_by_round full = walk_refused (rw full)

  pub walk_refused_by_count : (place.next ≡ 18446744073709551615 → ⊥) → place.owned ≡ 18446744073709551615 → WalkedOn place t (Err WalkerAtEnd) place
  unfolding at_end
  walk_refused_by_count room full = walk_refused (rw (ne_eqb _ _ room, full))

  module _ (room : place.next ≡ 18446744073709551615 → ⊥) (countable : place.owned ≡ 18446744073709551615 → ⊥) where
    not_at_end : at_end place ≡ false
    unfolding at_end
    not_at_end = rw (ne_eqb _ _ room, ne_eqb _ _ countable)

    pub walk_idle : (g : ℕ) → owner_or_rest place.next t ≡ idle_for g → WalkedOn place t (Ok (Idle g)) (record { next = place.next + 1; owned = place.owned })
    unfolding outcome_of owner_answer walk_outcome place_after moved_on count_after
    walk_idle g idle = record { answer_is = rw (not_at_end, idle); place_is = rw (not_at_end, ((idle_exactly place.next t g).0 idle).0) }

    pub walk_owned : (n : ℕ) → owner_or_rest place.next t ≡ owned_by n → WalkedOn place t (Ok (Line n)) (record { next = place.next + 1; owned = place.owned + 1 })
    unfolding outcome_of owner_answer walk_outcome place_after moved_on count_after
    walk_owned n owned = record { answer_is = rw (not_at_end, owned); place_is = rw (not_at_end, (owned_exactly place.next t n).0 owned) }
