-- What is no better than the best so far: by its start, and because it was offered earlier.
-- Assumes nothing.
use Rattle.std.specs.Prelude.{if◌then◌else◌, Option, None, Some}
use Prim.Native.Nat.{ℕ, ◌<◌, ◌≤◌}
use native.Mathlib.Nat.{le_refl}
use native.Mathlib.Omega.{arith}
use mathlib.Core.Path.{◌≡◌, refl, sym}
use mathlib.Core.Bool.{Bool, true, false, true≢false}
use mathlib.Core.Logic.{inl}
use lib.Dec.{ltb}
use lib.ListN.{length}
use borrow.Author.Tests.{ltb-true, ltb-false, le-ltb, lt-ltb, lt-leb, le-leb, leb-true, leb-false}
use Rattle.std.proofs.lemmas.Option.{same_Some}
use Rattle.tree.specs.Search.{smaller_by}
use Rattle.tree.proofs.Picking.{Either}
use Rattle.paths.specs.Rules.{Family, Spot, spot_start, spot_at, best_on_path, best_of_lines}
use Rattle.paths.proofs.PickedSpots.{picks_no_better, OnPath, OnLines, picks_on_path, picks_of_lines}
use Rattle.candidates.specs.Answers.{starts_by}

-- q is no better than o
abbrev pub NoBetter : Option Spot → Option Spot → Type 0
NoBetter q o = smaller_by spot_start o q ≡ o

pub none_no_better : (o : Option Spot) → NoBetter None o
unfolding smaller_by
none_no_better None = refl
none_no_better (Some b) = refl

-- no better than a candidate: its start is not smaller
pub no_better_start : (s b : Spot) → NoBetter (Some s) (Some b) → spot_start b ≤ spot_start s
unfolding smaller_by
no_better_start s b h = go (ltb (spot_start s) (spot_start b)) refl h
  where
    go : (t : Bool) → ltb (spot_start s) (spot_start b) ≡ t → (if t then Some s else Some b) ≡ Some b → spot_start b ≤ spot_start s
    go true e k = rw (same_Some _ _ k) (le_refl (spot_start b))
    go false e k = ltb-false (spot_start s) (spot_start b) e

pub start_no_better : (s b : Spot) → spot_start b ≤ spot_start s → NoBetter (Some s) (Some b)
unfolding smaller_by
start_no_better s b h = rw (le-ltb (spot_start s) (spot_start b) h)

-- The best start so far is at most n (`starts_by`)

pub starts_by_no_better : (o : Option Spot) (n : ℕ) → starts_by o n ≡ true → (q : Option Spot) → ((s : Spot) → q ≡ Some s → n ≤ spot_start s) → NoBetter q o
unfolding starts_by
starts_by_no_better None n h q later = absurd (true≢false (sym h))
starts_by_no_better (Some b) n h None later = none_no_better (Some b)
starts_by_no_better (Some b) n h (Some s) later =
    start_no_better s b (omega (arith, leb-true (spot_start b) n h, later s refl))

pub starts_by_later : (o : Option Spot) (n m : ℕ) → n ≤ m → starts_by o n ≡ true → starts_by o m ≡ true
unfolding starts_by
starts_by_later None n m later h = absurd (true≢false (sym h))
starts_by_later (Some b) n m later h = le-leb (spot_start b) m (omega (arith, leb-true (spot_start b) n h))

-- what is better starts no later
pub starts_by_better : (o q : Option Spot) (n : ℕ) → starts_by (smaller_by spot_start o q) n ≡ false → starts_by o n ≡ false
unfolding starts_by smaller_by
starts_by_better None q n h = refl
starts_by_better (Some b) None n h = h
starts_by_better (Some b) (Some s) n h = go (ltb (spot_start s) (spot_start b)) refl h
  where
    go : (t : Bool) → ltb (spot_start s) (spot_start b) ≡ t → starts_by (if t then Some s else Some b) n ≡ false → starts_by (Some b) n ≡ false
    go true e k = lt-leb (spot_start b) n (omega (arith, ltb-true (spot_start s) (spot_start b) e, leb-false (spot_start s) n k))
    go false e k = k

-- n is the start that a spot offers
module _ (o : Option Spot) (s : Spot) {n : ℕ} (start_is : n ≡ spot_start s) where
  pub offer_no_better : starts_by o n ≡ true → NoBetter (Some s) o
  offer_no_better h = starts_by_no_better o n h (Some s) (λ q same. rw (← same_Some s q same) (omega arith))

  pub offer_better : starts_by o n ≡ false → smaller_by spot_start o (Some s) ≡ Some s
  unfolding starts_by smaller_by
  offer_better h = go o (rw start_is at h)
    where
      go : (q : Option Spot) → starts_by q (spot_start s) ≡ false → smaller_by spot_start q (Some s) ≡ Some s
      go None k = refl
      go (Some b) k = rw (lt-ltb (spot_start s) (spot_start b) (leb-false (spot_start b) (spot_start s) k))

-- What was offered earlier

-- what an earlier line has to offer is no better than the best of these lines and of the first n levels of line L's path
pub earlier_no_better : (family : Family) (p L n M l : ℕ) → M < L → l < length (family M) → NoBetter (spot_at family p M l) (best_on_path family p (best_of_lines family p L) L n)
earlier_no_better family p L n M l earlier there =
    picks_no_better (Either (OnLines family p L) (OnPath family p L n)) _ (spot_at family p M l)
    (picks_on_path family p (OnLines family p L) (best_of_lines family p L) (picks_of_lines family p L) L n) (λ s offered. inl (M, earlier, (l, there, offered)))
