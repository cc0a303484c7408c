-- The decimal digits of a number (specs/BookText.antt): one digit, or the digits in front of the last one and that one. Below 2 ^ 64 they are what std's
-- `decimal` gives, which the kit's `itoa` prints; how many they are.
-- Assumes nothing.
use Rattle.std.specs.Prelude.{if◌then◌else◌, decimal as std_decimal}
use Prim.Native.Nat.{ℕ, zero, suc, ◌+◌, ◌/◌, ◌%◌, ◌^◌, ◌<◌, ◌≤◌}
use native.Mathlib.Omega.{arith}
use mathlib.Core.Path.{◌≡◌, refl, sym, ◌∙◌, ap}
use mathlib.Core.Bool.{Bool, true, false}
use mathlib.Core.List.{List, [], ◌∷◌, ◌++◌}
use lib.Dec.{ltb}
use lib.ListN.{length}
use borrow.Author.Tests.{ltb-false, lt-ltb, le-ltb}
use Rattle.std.proofs.lemmas.Fmt.{decimal_by_steps, length-decimal-le}
use Rattle.book_text.specs.BookText.{last_digits, decimal}

-- so many digits as there are, and more, are the same ones
same_digits : (k m n : ℕ) → n < k → n < m → last_digits k n ≡ last_digits m n
unfolding last_digits
same_digits zero m n left right = absurd (omega arith)
same_digits (suc k) zero n left right = absurd (omega arith)
same_digits (suc k) (suc m) n left right = by_size (ltb n 10) refl (λ large. same_digits k m (n / 10) (omega arith) (omega arith))
  where
    by_size : (small : Bool) → ltb n 10 ≡ small → (10 ≤ n → last_digits k (n / 10) ≡ last_digits m (n / 10)) →
        (if small then ((48 + n) ∷ []) else (last_digits k (n / 10) ++ ((48 + n % 10) ∷ []))) ≡ (if small then ((48 + n) ∷ []) else (last_digits m (n / 10) ++ ((48 + n % 10) ∷ [])))
    by_size true e fronts = refl
    by_size false e fronts = ap (λ (front : List ℕ). front ++ ((48 + n % 10) ∷ [])) (fronts (ltb-false n 10 e))

pub one_digit : (n : ℕ) → n < 10 → decimal n ≡ (48 + n) ∷ []
unfolding decimal last_digits
one_digit n small = rw (lt-ltb n 10 small)

more_digits : (n : ℕ) → 10 ≤ n → decimal n ≡ decimal (n / 10) ++ ((48 + n % 10) ∷ [])
unfolding decimal last_digits
more_digits n large =
    rw (le-ltb n 10 large) (ap (λ (front : List ℕ). front ++ ((48 + n % 10) ∷ [])) (same_digits n (suc (n / 10)) (n / 10) (omega arith) (omega arith)))

pub decimal_printed : (n : ℕ) → n < 2 ^ 64 → std_decimal n ≡ decimal n
decimal_printed n small =
    decimal_by_steps (λ m ds. ds ≡ decimal m) (λ m one. sym (one_digit m one))
    (λ m ds large front. ap (λ (digits : List ℕ). digits ++ ((48 + m % 10) ∷ [])) front ∙ sym (more_digits m large))
    n small

pub decimal_length : (k n : ℕ) → 0 < k → n < 10 ^ k → n < 2 ^ 64 → length (decimal n) ≤ k
decimal_length k n some below small = rw (← decimal_printed n small) (length-decimal-le k n some below small)
