-- The answer of a call of the library is one signed number: its value, or minus the number with which the call is refused.
-- Assumes nothing.
use Rattle.std.specs.Prelude.{ℕ, suc, ◌^◌, ◌%◌, ◌<◌, ◌≤◌, ◌≡◌, List, ℤ, pos, negsuc, neg_ℤ}
use Rattle.std.specs.Int.{Width, w64}
use mir.Val.{bits, SFits, of_z, to_z}
use Rattle.tree.specs.Calls.{Outcome, gives, refuses}

-- the number that is answered: the value, or minus the number of the refusal
unfoldable pub answer_number : Outcome ℕ → ℤ
answer_number (gives n) = pos n
answer_number (refuses n) = neg_ℤ (pos n)

-- the number for an outcome, which 64 bits with a sign hold: what the two functions that make an answer promise
pub record IsAnswer (o : Outcome ℕ) (r : ℤ) : Type 0 where
  pub number_is : r ≡ answer_number o
  pub fits : SFits w64 r

-- the value of a call that writes what it gives into a lent record is 0
unfoldable pub zero_value : {A : Type 0} → Outcome A → Outcome ℕ
zero_value (gives a) = gives 0
zero_value (refuses n) = refuses n

-- what such a call leaves in the lent record: the numbers of what it gives, or the record as found where it is refused
unfoldable pub numbers_or : {A : Type 0} → (A → List ℕ) → List ℕ → Outcome A → List ℕ
numbers_or numbers lent (gives a) = numbers a
numbers_or numbers lent (refuses n) = lent

-- What a caller reads out of an answer: 0 or more is a value, below 0 is minus a refusal.
unfoldable pub outcome_told : ℤ → Outcome ℕ
outcome_told (pos n) = gives n
outcome_told (negsuc n) = refuses (suc n)

-- A refusal is one of the numbers of documents 01 and 02, 1 to 16, as demand 1 asks of every call. A value is below 2^32.
unfoldable pub InRange : Outcome ℕ → Type 0
InRange (gives n) = n < 2 ^ 32
InRange (refuses n) = (1 ≤ n) × (n ≤ 16)

-- an answer tells its outcome, and the outcome is in range
pub record Tells (o : Outcome ℕ) (r : ℤ) : Type 0 where
  pub told_is : outcome_told r ≡ o
  pub in_range : InRange o

-- an answer that a caller keeps in a signed number of fewer bits: its lowest bits, read with a sign
unfoldable pub narrowed : Width → ℤ → ℤ
narrowed w r = to_z w (of_z w64 r % 2 ^ bits w)
