-- Further laws of `all_below` (crate tree, specs/Search.antt), and the invariant of a loop that tests one number after the other.
-- Assumes nothing.
use Prim.Native.Nat.{ℕ, ◌+◌, ◌<◌, ◌≤◌, zero-le}
use native.Mathlib.Omega.{arith}
use native.Mathlib.Nat.{lt_of_lt_of_le}
use mathlib.Core.Path.{◌≡◌, refl, ap}
use mathlib.Core.Logic.{◌⊎◌, inl, inr}
use mathlib.Core.Bool.{Bool, true, false, not, ◌&&◌, and-eq-true_iff}
use borrow.Author.Tests.{not-true, not-false}
use borrow.Author.Count.{below_none, below_more}
use Rattle.tree.specs.Search.{all_below}
use Rattle.tree.proofs.Searching.{some_below_true, some_below_at, all_below_at, all_below_each}

pub all_below_fault : (n : ℕ) (test : ℕ → Bool) (i : ℕ) → i < n → test i ≡ false → all_below n test ≡ false
unfolding all_below
all_below_fault n test i below h = ap not (some_below_at n (λ j. not (test j)) i below (ap not h))

pub all_below_faulty : (n : ℕ) (test : ℕ → Bool) → all_below n test ≡ false → (i : ℕ) × (i < n) × (test i ≡ false)
unfolding all_below
all_below_faulty n test h =
    let x = some_below_true n (λ j. not (test j)) (not-false _ h) in
    (x.0, x.1, not-true _ x.2)

one_false : (a b : Bool) → (a && b) ≡ false → (a ≡ false) ⊎ (b ≡ false)
one_false true b h = inr h
one_false false b h = inl refl

and_false_right : (a b : Bool) → b ≡ false → (a && b) ≡ false
and_false_right true b h = h
and_false_right false b h = refl

-- two tests of every number below n are one test of both
pub all_below_and : (n : ℕ) (f g : ℕ → Bool) → (all_below n f && all_below n g) ≡ all_below n (λ i. f i && g i)
all_below_and n f g = go (all_below n (λ i. f i && g i)) refl
  where
    fails : (i : ℕ) → i < n → (f i ≡ false) ⊎ (g i ≡ false) → (all_below n f && all_below n g) ≡ false
    fails i below (inl e) = ap (λ (b : Bool). b && all_below n g) (all_below_fault n f i below e)
    fails i below (inr e) = and_false_right (all_below n f) (all_below n g) (all_below_fault n g i below e)

    go : (b : Bool) → all_below n (λ i. f i && g i) ≡ b → (all_below n f && all_below n g) ≡ all_below n (λ i. f i && g i)
    go true e =
        let first = all_below_each n f (λ i below. ((and-eq-true_iff (f i) (g i)).0 (all_below_at n _ e i below)).0) in
        let second = all_below_each n g (λ i below. ((and-eq-true_iff (f i) (g i)).0 (all_below_at n _ e i below)).1) in
        rw (first, second, e)
    go false e =
        let x = all_below_faulty n (λ i. f i && g i) e in
        rw e (fails x.0 x.1 (one_false (f x.0) (g x.0) x.2))

-- a loop has come to k, and the test gave b of every number below k
pub record SoFar (b : Bool) (n : ℕ) (test : ℕ → Bool) (k : ℕ) : Type 0 where
  pub within : k ≤ n
  pub gave : (i : ℕ) → i < k → test i ≡ b

pub so_far_none : {b : Bool} (n : ℕ) (test : ℕ → Bool) → SoFar b n test 0
so_far_none {b} n test = record { within = zero-le; gave = below_none (λ (i : ℕ). test i ≡ b) }

pub so_far_more : {b : Bool} {n : ℕ} {test : ℕ → Bool} {k : ℕ} → SoFar b n test k → k < n → test k ≡ b → SoFar b n test (k + 1)
so_far_more {b} {test = test} {k = k} so_far below h = record { within = omega arith; gave = below_more (λ (i : ℕ). test i ≡ b) k so_far.gave h }

-- every number below k passed
abbrev pub Tested : ℕ → (ℕ → Bool) → ℕ → Type 0
Tested n test k = SoFar true n test k

module _ {n : ℕ} {test : ℕ → Bool} {k : ℕ} (tested : Tested n test k) where
  pub tested_fault : k < n → test k ≡ false → all_below n test ≡ false
  tested_fault below h = all_below_fault n test k below h

  pub tested_all : n ≤ k → all_below n test ≡ true
  tested_all past = all_below_each n test (λ i below. tested.gave i (lt_of_lt_of_le below past))
