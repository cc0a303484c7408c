-- One division of Euclid's algorithm (crate tree, specs/Numbers.antt) leaves the greatest common divisor as it was.
-- Assumes nothing.
use Prim.Native.Nat.{ℕ, zero, suc, ◌%◌, ◌≤◌}
use native.Mathlib.Omega.{arith}
use native.Mathlib.Nat.{mod-lt, zero-lt-suc, le_refl}
use mathlib.Core.Path.{◌≡◌, refl}
use Rattle.tree.specs.Numbers.{euclid, gcd}

-- more divisions than the second number change nothing
enough_divisions : (n m a b : ℕ) → b ≤ n → b ≤ m → euclid n a b ≡ euclid m a b
unfolding euclid
enough_divisions zero zero a b h k = refl
enough_divisions zero (suc m) a zero h k = refl
enough_divisions zero (suc m) a (suc b) h k = absurd (omega arith)
enough_divisions (suc n) zero a zero h k = refl
enough_divisions (suc n) zero a (suc b) h k = absurd (omega arith)
enough_divisions (suc n) (suc m) a zero h k = refl
enough_divisions (suc n) (suc m) a (suc b) h k =
    let below = mod-lt a (zero-lt-suc b) in
    enough_divisions n m (suc b) (a % suc b) (omega arith) (omega arith)

pub gcd_zero : (a b : ℕ) → b ≡ 0 → gcd a b ≡ a
unfolding gcd euclid
gcd_zero a zero h = refl
gcd_zero a (suc b) h = absurd (omega arith)

pub gcd_division : (a b : ℕ) → (b ≡ 0 → ⊥) → gcd a b ≡ gcd b (a % b)
unfolding gcd euclid
gcd_division a zero h = absurd (h refl)
gcd_division a (suc b) h =
    let below = mod-lt a (zero-lt-suc b) in
    enough_divisions b (a % suc b) (suc b) (a % suc b) (omega arith) (le_refl (a % suc b))
