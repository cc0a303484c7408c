-- What a search picks that keeps, of what it is offered, the one with the smallest key (`smaller_by` of specs/Search.antt).
-- Assumes nothing.
use Rattle.std.specs.Prelude.{if◌then◌else◌, Option, None, Some}
use Prim.Native.Nat.{ℕ, zero, suc, ◌<◌, ◌≤◌}
use native.Mathlib.Decide.{ℕ_discrete}
use native.Mathlib.Omega.{arith}
use mathlib.Core.Path.{◌≡◌, refl, subst}
use mathlib.Core.Bool.{Bool, true, false}
use mathlib.Core.Logic.{◌⊎◌, inl, inr, ⊎_elim}
use lib.Dec.{ltb}
use borrow.Author.Tests.{ltb-true, ltb-false}
use Rattle.tree.specs.Search.{smaller_by, smallest_by}

abbrev pub Either : {A : Type 0} (C D : A → Type 0) → A → Type 0
Either C D b = C b ⊎ D b

-- some number below n has property E
abbrev pub Below : ℕ → (ℕ → Type 0) → Type 0
Below n E = (e : ℕ) × (e < n) × E e

pub below_or_last : (n : ℕ) (E : ℕ → Type 0) → Below n E ⊎ E n → Below (suc n) E
below_or_last n E (inl h) = (h.0, omega arith, h.2)
below_or_last n E (inr h) = (n, omega arith, h)

pub below_suc : (n : ℕ) (E : ℕ → Type 0) → Below (suc n) E → Below n E ⊎ E n
below_suc n E h = by_equality (ℕ_discrete h.0 n)
  where
    by_equality : Dec (h.0 ≡ n) → Below n E ⊎ E n
    by_equality (yes e) = inr (subst E e h.2)
    by_equality (no d) = inl (h.0, omega arith, h.2)

module _ {A : Type 0} (key : A → ℕ) where
  -- the search for something with property C ends so: nothing has it, or this has it and nothing with a smaller key has
  abbrev pub PicksBy : (A → Type 0) → Option A → Type 0
  PicksBy C None = (b : A) → C b → ⊥
  PicksBy C (Some a) = C a × ((b : A) → C b → key a ≤ key b)

  module _ (C D : A → Type 0) where
    pub picks_same : ((b : A) → C b → D b) → ((b : A) → D b → C b) → (o : Option A) → PicksBy C o → PicksBy D o
    picks_same to from None P = λ b h. P b (from b h)
    picks_same to from (Some a) P = (to a P.0, λ b h. P.1 b (from b h))

    picks_by_test : (a b : A) → PicksBy C (Some a) → PicksBy D (Some b) → (t : Bool) → ltb (key b) (key a) ≡ t → PicksBy (Either C D) (if t then Some b else Some a)
    picks_by_test a b P Q true e =
        (inr Q.0, λ c. ⊎_elim (λ h. omega (arith, P.1 c h, ltb-true (key b) (key a) e)) (Q.1 c))
    picks_by_test a b P Q false e =
        (inl P.0, λ c. ⊎_elim (P.1 c) (λ h. omega (arith, Q.1 c h, ltb-false (key b) (key a) e)))

    pub picks_smaller : (o q : Option A) → PicksBy C o → PicksBy D q → PicksBy (Either C D) (smaller_by key o q)
    unfolding smaller_by
    picks_smaller None None P Q = λ c. ⊎_elim (P c) (Q c)
    picks_smaller None (Some b) P Q = (inr Q.0, λ c. ⊎_elim (λ h. absurd (P c h)) (Q.1 c))
    picks_smaller (Some a) None P Q = (inl P.0, λ c. ⊎_elim (P.1 c) (λ h. absurd (Q c h)))
    picks_smaller (Some a) (Some b) P Q = picks_by_test a b P Q (ltb (key b) (key a)) refl

  module _ (C : ℕ → A → Type 0) (offer : ℕ → Option A) (P : (e : ℕ) → PicksBy (C e) (offer e)) where
    pub picks_smallest : (n : ℕ) → PicksBy (λ b. Below n (λ e. C e b)) (smallest_by key n offer)
    unfolding smallest_by
    picks_smallest zero = λ b h. omega arith
    picks_smallest (suc n) =
        picks_same _ _ (λ b. below_or_last n (λ e. C e b)) (λ b. below_suc n (λ e. C e b)) (smallest_by key (suc n) offer)
        (picks_smaller _ _ (smallest_by key n offer) (offer n) (picks_smallest n) (P n))
