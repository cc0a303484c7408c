-- Searches, lists and sums below a bound, from 0 upward.
-- Assumes nothing.
use Rattle.std.specs.Prelude.{ℕ, zero, suc, ◌+◌, Bool, true, false, not, List, [], ◌∷◌, ◌++◌, ltb, if◌then◌else◌, Option, None, Some}

module _ {A : Type 0} where
  unfoldable pub found : Option A → Bool
  found None = false
  found (Some a) = true

  -- the first where there is one, else the second
  unfoldable pub or_else : Option A → Option A → Option A
  or_else (Some a) o = Some a
  or_else None o = o

  -- what there is, where it passes the test
  unfoldable pub passing : (A → Bool) → Option A → Option A
  passing test None = None
  passing test (Some a) = if test a then Some a else None

  -- what the smallest number below n has to offer, of those that offer something
  unfoldable pub first : ℕ → (ℕ → Option A) → Option A
  first zero offer = None
  first (suc n) offer = or_else (first n offer) (offer n)

  -- of two the one with the smaller key, the first where the keys are equal
  unfoldable pub smaller_by : (A → ℕ) → Option A → Option A → Option A
  smaller_by key None b = b
  smaller_by key (Some a) None = Some a
  smaller_by key (Some a) (Some b) = if ltb (key b) (key a) then Some b else Some a

  -- of all that the numbers below n have to offer, the one with the smallest key, the first of equal ones
  unfoldable pub smallest_by : (A → ℕ) → ℕ → (ℕ → Option A) → Option A
  smallest_by key zero offer = None
  smallest_by key (suc n) offer = smaller_by key (smallest_by key n offer) (offer n)

  -- what each number below n has, in a list
  unfoldable pub each_below : ℕ → (ℕ → A) → List A
  each_below zero what = []
  each_below (suc n) what = each_below n what ++ (what n ∷ [])

-- the smallest number below n that passes the test
unfoldable pub smallest : ℕ → (ℕ → Bool) → Option ℕ
smallest n test = first n (λ i. if test i then Some i else None)

-- some number below n passes the test
unfoldable pub some_below : ℕ → (ℕ → Bool) → Bool
some_below n test = found (smallest n test)

-- every number below n passes the test
unfoldable pub all_below : ℕ → (ℕ → Bool) → Bool
all_below n test = not (some_below n (λ i. not (test i)))

-- the sum of what each number below n counts
unfoldable pub total_below : ℕ → (ℕ → ℕ) → ℕ
total_below zero count = 0
total_below (suc n) count = total_below n count + count n

-- how many numbers below n pass the test
unfoldable pub count_below : ℕ → (ℕ → Bool) → ℕ
count_below n test = total_below n (λ i. if test i then 1 else 0)
