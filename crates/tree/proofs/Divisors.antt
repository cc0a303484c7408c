-- That `divides` (specs/Numbers.antt) tests divisibility, and that `gcd` is the greatest common divisor: it divides both numbers, and every number that divides both divides it.
-- Assumes nothing.
use Prim.Native.Nat.{ℕ, zero, suc, ◌%◌, ◌≤◌, ◌<◌, ◌∣◌}
use mathlib.Core.Path.{◌≡◌}
use mathlib.Core.Bool.{true}
use native.Mathlib.Nat.{dvd_refl, dvd-zero, dvd-mod_iff, dvd_of_mod-eq-zero, mod-lt, zero-lt-suc, pos_of_dvd_of_pos, le_refl}
use native.Mathlib.Omega.{arith}
use borrow.Author.Tests.{eqb-true}
use Rattle.tree.specs.Numbers.{divides, euclid, gcd}

pub divides_true : (m p : ℕ) → divides m p ≡ true → m ∣ p
unfolding divides
divides_true m p h = dvd_of_mod-eq-zero m (eqb-true (p % m) 0 h)

-- with as many divisions as the second number, Euclid's algorithm ends on a common divisor
euclid_divides : (n a b : ℕ) → b ≤ n → (euclid n a b ∣ a) × (euclid n a b ∣ b)
unfolding euclid
euclid_divides zero a zero h = (dvd_refl a, dvd-zero a)
euclid_divides zero a (suc b) h = absurd (omega arith)
euclid_divides (suc n) a zero h = (dvd_refl a, dvd-zero a)
euclid_divides (suc n) a (suc b) h =
    let both = euclid_divides n (suc b) (a % suc b) (omega (arith, mod-lt a (zero-lt-suc b))) in
    ((dvd-mod_iff _ both.0).0 both.1, both.0)

-- each division keeps the common divisors
euclid_greatest : (n c a b : ℕ) → c ∣ a → c ∣ b → c ∣ euclid n a b
unfolding euclid
euclid_greatest zero c a b h k = h
euclid_greatest (suc n) c a zero h k = h
euclid_greatest (suc n) c a (suc b) h k = euclid_greatest n c (suc b) (a % suc b) k ((dvd-mod_iff c k).1 h)

pub gcd_divides_left : (a b : ℕ) → gcd a b ∣ a
unfolding gcd
gcd_divides_left a b = (euclid_divides b a b (le_refl b)).0

pub gcd_divides_right : (a b : ℕ) → gcd a b ∣ b
unfolding gcd
gcd_divides_right a b = (euclid_divides b a b (le_refl b)).1

pub gcd_greatest : (c a b : ℕ) → c ∣ a → c ∣ b → c ∣ gcd a b
unfolding gcd
gcd_greatest c a b = euclid_greatest b c a b

pub gcd_positive : (a b : ℕ) → 0 < a → 0 < gcd a b
gcd_positive a b h = pos_of_dvd_of_pos (gcd_divides_left a b) h
