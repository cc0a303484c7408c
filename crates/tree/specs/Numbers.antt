-- The two facts about numbers that the rules ask for.
-- Assumes nothing.
use Rattle.std.specs.Prelude.{ℕ, zero, suc, ◌%◌, Bool, eqb}

-- m divides p
unfoldable pub divides : ℕ → ℕ → Bool
divides m p = eqb (p % m) 0

-- Euclid's algorithm, in at most so many divisions
unfoldable pub euclid : ℕ → ℕ → ℕ → ℕ
euclid zero a b = a
euclid (suc n) a zero = a
euclid (suc n) a (suc b) = euclid n (suc b) (a % suc b)

-- the greatest common divisor: the second number falls with each division, so as many divisions as it says are enough
unfoldable pub gcd : ℕ → ℕ → ℕ
gcd a b = euclid b a b
