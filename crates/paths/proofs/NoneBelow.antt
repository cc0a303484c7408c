-- The invariant of a loop that searches for the smallest number that passes a test, and a law of one that collects them (crate tree, specs/Search.antt).
-- Assumes nothing.
use Rattle.std.specs.Prelude.{if◌then◌else◌, Option, None, Some}
use Prim.Native.Nat.{ℕ, ◌+◌, ◌<◌, ◌≤◌}
use native.Mathlib.Omega.{arith}
use native.Mathlib.Nat.{lt_of_lt_of_le}
use native.Mathlib.Numerals.{add-one}
use mathlib.Core.Path.{◌≡◌, refl, sym, ◌∙◌, ap}
use mathlib.Core.Bool.{Bool, true, false, ◌||◌, true≢false}
use lib.Dec.{ltb}
use borrow.Author.Tests.{ltb-true, ltb-false}
use Rattle.tree.specs.Search.{found, or_else, first, smallest, some_below}
use Rattle.tree.proofs.Searching.{smallest_some, smallest_none, some_below_true, some_below_false, some_below_at, some_below_none}
use Rattle.paths.proofs.AllBelow.{SoFar}

-- one number more is tested
pub some_below_more : (n : ℕ) (test : ℕ → Bool) → some_below (n + 1) test ≡ (some_below n test || test n)
unfolding some_below smallest first found or_else
some_below_more n test = rw add-one (go (smallest n test) (test n))
  where
    go : (o : Option ℕ) (b : Bool) → found (or_else o (if b then Some n else None)) ≡ (found o || b)
    go None true = refl
    go None false = refl
    go (Some i) b = refl

-- no number from n on passes
pub some_below_up_to : (test : ℕ → Bool) {n m : ℕ} → n ≤ m → ((i : ℕ) → n ≤ i → i < m → test i ≡ false) → some_below m test ≡ some_below n test
some_below_up_to test {n} {m} within later = go (some_below n test) refl
  where
    by_side : some_below n test ≡ false → (i : ℕ) → i < m → (b : Bool) → ltb i n ≡ b → test i ≡ false
    by_side e i below true h = some_below_false n test e i (ltb-true i n h)
    by_side e i below false h = later i (ltb-false i n h) below

    go : (b : Bool) → some_below n test ≡ b → some_below m test ≡ some_below n test
    go true e = let x = some_below_true n test e in some_below_at m test x.0 (lt_of_lt_of_le x.1 within) x.2 ∙ sym e
    go false e = some_below_none m test (λ i below. by_side e i below (ltb i n) refl) ∙ sym e

-- the loop has come to k, and no number below k passes
abbrev pub NoneBelow : ℕ → (ℕ → Bool) → ℕ → Type 0
NoneBelow n test k = SoFar false n test k

module _ {n : ℕ} {test : ℕ → Bool} {k : ℕ} (searched : NoneBelow n test k) where
  pub smallest_here : k < n → test k ≡ true → smallest n test ≡ Some k
  smallest_here below h = go (smallest n test) refl
    where
      go : (o : Option ℕ) → smallest n test ≡ o → smallest n test ≡ Some k
      go None e = absurd (true≢false (sym h ∙ smallest_none n test e k below))
      go (Some i) e =
          let s = smallest_some n test i e in
          let not_later : k < i → ⊥ = λ later. true≢false (sym h ∙ s.none_smaller k later) in
          let not_earlier : i < k → ⊥ = λ earlier. true≢false (sym s.passes ∙ searched.gave i earlier) in
          let same : i ≡ k = omega arith in
          e ∙ ap Some same

  pub smallest_nowhere : n ≤ k → smallest n test ≡ None
  smallest_nowhere past = go (smallest n test) refl
    where
      go : (o : Option ℕ) → smallest n test ≡ o → smallest n test ≡ None
      go None e = e
      go (Some i) e =
          let s = smallest_some n test i e in
          absurd (true≢false (sym s.passes ∙ searched.gave i (lt_of_lt_of_le s.in_range past)))
