-- Chains of lines (src/chains.rt): `head` has the first entry of each of 128 buckets, `link` the entry after each line. An entry is 0, or 1 + a line.
-- Assumes nothing.
use Rattle.std.specs.Prelude.{ℕ, zero, suc, ◌+◌, ◌<◌, ◌≡◌, Bool, true, length, get_or, set, if◌then◌else◌}
use Rattle.paths.specs.declared.chains.Chains.{Chains}

-- both arrays have all their numbers, which a proof does not know of an array in a field
unfoldable pub WholeArrays : Chains → Type 0
WholeArrays chains = (length chains.head ≡ 128) × (length chains.link ≡ 64)

-- line L at the head of bucket b's chain, before those that were in it
unfoldable pub with_line : Chains → ℕ → ℕ → Chains
with_line chains b L = record { head = set chains.head b (L + 1); link = set chains.link L (get_or chains.head b 0) }

-- the entry of the largest line below n that passes a test, 0 where none does
unfoldable pub last_entry : ℕ → (ℕ → Bool) → ℕ
last_entry zero test = 0
last_entry (suc n) test = if test n then suc n else last_entry n test

-- The chains of the lines below n, for any buckets: `member b` says which lines bucket b has.
-- A bucket's chain begins with the largest of them, and goes on after each to the largest below it.
pub record Chained (member : ℕ → ℕ → Bool) (chains : Chains) (n : ℕ) : Type 0 where
  pub arrays : WholeArrays chains
  pub begins : (b : ℕ) → b < 128 → get_or chains.head b 0 ≡ last_entry n (member b)
  pub goes_on : (b L : ℕ) → L < n → member b L ≡ true → get_or chains.link L 0 ≡ last_entry L (member b)
