-- Laws of sums below a bound (specs/Search.antt).
-- Assumes nothing.
use Rattle.std.specs.Prelude.{if◌then◌else◌}
use Prim.Native.Nat.{ℕ, zero, suc, ◌+◌, ◌*◌, ◌<◌, ◌≤◌}
use native.Mathlib.Omega.{arith}
use native.Mathlib.Nat.{suc-mul, add-zero, add-suc, add_comm, mul-zero, mul-suc}
use native.Mathlib.Numerals.{add-one}
use native.Mathlib.Decide.{ℕ_discrete}
use mathlib.Core.Path.{◌≡◌, refl, sym, ◌∙◌, ap}
use mathlib.Core.Logic.{inl, inr}
use mathlib.Core.Bool.{Bool, true, false, ◌||◌, or-false}
use lib.Dec.{eqb}
use borrow.Author.Tests.{eq-eqb, ne_eqb}
use Rattle.tree.specs.Search.{total_below, count_below}
use Rattle.tree.proofs.Searching.{last_or_below}

-- n numbers that count at most b each
pub total_at_most : (n : ℕ) (count : ℕ → ℕ) (b : ℕ) → ((i : ℕ) → i < n → count i ≤ b) → total_below n count ≤ n * b
unfolding total_below
total_at_most zero count b h = omega arith
total_at_most (suc n) count b h =
    omega (arith, total_at_most n count b (λ i k. h i (omega arith)), h n (omega arith), suc-mul n b)

pub total_monotone : (n : ℕ) (few many : ℕ → ℕ) → ((i : ℕ) → few i ≤ many i) → total_below n few ≤ total_below n many
unfolding total_below
total_monotone zero few many h = omega arith
total_monotone (suc n) few many h = omega (arith, total_monotone n few many h, h n)

-- where nowhere more is counted, and less at k
pub total_less : (n : ℕ) (few many : ℕ → ℕ) → ((i : ℕ) → few i ≤ many i) → (k : ℕ) → k < n → few k < many k → total_below n few < total_below n many
unfolding total_below
total_less zero few many h k below less = absurd (omega arith)
total_less (suc n) few many h k below less =
    elim (last_or_below k n below) [
      | inl e ↦ omega (arith, total_monotone n few many h, rw e at less)
      | inr l ↦ omega (arith, total_less n few many h k l less, h n)
    ]

-- where only the number k counts anything
pub total_only : (n : ℕ) (count : ℕ → ℕ) (k : ℕ) → ((i : ℕ) → (i ≡ k → ⊥) → count i ≡ 0) → total_below n count ≤ count k
unfolding total_below
total_only zero count k only = omega arith
total_only (suc n) count k only =
    elim (ℕ_discrete n k) [
      | yes e ↦ omega (arith, total_at_most n count 0 (λ i l. omega (arith, only i (λ z. omega arith))), ap count e)
      | no z ↦ omega (arith, total_only n count k only, only n z)
    ]

pub total_plus : (n : ℕ) (a b : ℕ → ℕ) → total_below n (λ i. a i + b i) ≡ total_below n a + total_below n b
unfolding total_below
total_plus zero a b = refl
total_plus (suc n) a b = omega (arith, total_plus n a b)

-- where each number counts 1
pub total_ones : (n : ℕ) (count : ℕ → ℕ) → ((i : ℕ) → count i ≡ 1) → total_below n count ≡ n
unfolding total_below
total_ones zero count h = refl
total_ones (suc n) count h = omega (arith, total_ones n count h, h n)

-- where each number counts the same
pub total_same : (n : ℕ) (a b : ℕ → ℕ) → ((i : ℕ) → i < n → a i ≡ b i) → total_below n a ≡ total_below n b
unfolding total_below
total_same zero a b h = refl
total_same (suc n) a b h = omega (arith, total_same n a b (λ i below. h i (omega arith)), h n (omega arith))

-- where only what k counts changes
pub total_change : (n : ℕ) (old new : ℕ → ℕ) (k : ℕ) → k < n → ((i : ℕ) → (i ≡ k → ⊥) → new i ≡ old i) →
    total_below n new + old k ≡ total_below n old + new k
unfolding total_below
total_change zero old new k below others = absurd (omega arith)
total_change (suc n) old new k below others =
    elim (last_or_below k n below) [
      | inl e ↦ rw e (omega (arith, total_same n new old (λ i l. others i (λ z. omega arith))))
      | inr l ↦ omega (arith, total_change n old new k l others, others n (λ z. omega arith))
    ]

total_append : (a b : ℕ) (count : ℕ → ℕ) → total_below (a + b) count ≡ total_below a count + total_below b (λ i. count (a + i))
unfolding total_below
total_append a zero count = simp add-zero
total_append a (suc b) count = rw add-suc (omega (arith, total_append a b count))

-- numbers written to the base d, by their lower digit and then by their higher one
pub total_digits : (d n : ℕ) (count : ℕ → ℕ) → total_below (d * n) count ≡ total_below d (λ k. total_below n (λ j. count (k + d * j)))
unfolding total_below
total_digits d zero count = rw mul-zero (omega (arith, total_at_most d (λ k. 0) 0 (λ i l. omega arith)))
total_digits d (suc n) count =
    rw mul-suc
    (omega (
      arith,
      total_append (d * n) d count,
      total_digits d n count,
      total_plus d (λ k. total_below n (λ j. count (k + d * j))) (λ k. count (k + d * n)),
      total_same d (λ k. count (d * n + k)) (λ k. count (k + d * n)) (λ k below. ap count (add_comm (d * n) k)),
    ))

-- the two sums of a table are exchanged
pub total_exchange : (n m : ℕ) (count : ℕ → ℕ → ℕ) → total_below n (λ i. total_below m (count i)) ≡ total_below m (λ k. total_below n (λ i. count i k))
unfolding total_below
total_exchange zero m count = omega (arith, total_at_most m (λ k. 0) 0 (λ i l. omega arith))
total_exchange (suc n) m count =
    omega (arith, total_exchange n m count, total_plus m (λ k. total_below n (λ i. count i k)) (count n))

-- Counts

pub count_at_most : (n : ℕ) (test : ℕ → Bool) → count_below n test ≤ n
unfolding count_below
count_at_most n test = omega (arith, total_at_most n (λ i. if test i then 1 else 0) 1 (λ i below. at_most_1 (test i)))
  where
    at_most_1 : (b : Bool) → (if b then 1 else 0) ≤ 1
    at_most_1 true = omega arith
    at_most_1 false = omega arith

-- one number more
pub count_more : (n : ℕ) (test : ℕ → Bool) → count_below (n + 1) test ≡ count_below n test + (if test n then 1 else 0)
unfolding count_below total_below
count_more n test = rw add-one

-- a test that every number passes
pub count_all : (n : ℕ) (test : ℕ → Bool) → ((i : ℕ) → test i ≡ true) → count_below n test ≡ n
unfolding count_below
count_all n test passes = total_ones n (λ i. if test i then 1 else 0) (λ i. rw (passes i))

-- a test that nothing passes
pub count_none : (n : ℕ) (test : ℕ → Bool) → ((i : ℕ) → test i ≡ false) → count_below n test ≡ 0
unfolding count_below
count_none n test fails = omega (arith, total_at_most n (λ i. if test i then 1 else 0) 0 (λ i below. rw (fails i) (omega arith)))

-- a test that passes one number more
pub count_one_more : (n : ℕ) (test : ℕ → Bool) (k : ℕ) → k < n → test k ≡ false → count_below n (λ i. test i || eqb k i) ≡ suc (count_below n test)
unfolding count_below
count_one_more n test k below fails =
    let old : ℕ → ℕ = λ i. if test i then 1 else 0 in
    let new : ℕ → ℕ = λ i. if test i || eqb k i then 1 else 0 in
    let old_k : old k ≡ 0 = rw fails in
    let new_k : new k ≡ 1 = rw (fails, eq-eqb k k refl) in
    omega (arith, total_change n old new k below (λ i other. rw (ne_eqb k i (λ same. other (sym same)), or-false)))

-- a test that one number passes
pub count_only : (n k : ℕ) → k < n → count_below n (eqb k) ≡ 1
count_only n k below = count_one_more n (λ i. false) k below refl ∙ ap suc (count_none n (λ i. false) (λ i. refl))
