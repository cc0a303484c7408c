-- A number written to two bases, as e + w * s with e below w: its two digits, and which numbers leave it modulo w * p.
-- Assumes nothing.
use Prim.Native.Nat.{ℕ, ◌+◌, ◌*◌, ◌/◌, ◌%◌, ◌<◌}
use mathlib.Core.Path.{◌≡◌, refl, ◌∙◌}
use mathlib.Core.Logic.{◌↔◌}
use native.Mathlib.Nat.{add-mul-mod_self_left, add-mul-div_left, mod-eq_of_lt, div-eq_of_lt, mod-add-div, mod-lt, mul_comm}
use native.Mathlib.Omega.{arith}
use lib.Arith.{digits_lt, mod-mul}

pub digit_low : (w e s : ℕ) → e < w → (e + w * s) % w ≡ e
digit_low w e s h = add-mul-mod_self_left e w s ∙ mod-eq_of_lt h

pub digit_high : (w e s : ℕ) → e < w → (e + w * s) / w ≡ s
digit_high w e s h = omega (arith, add-mul-div_left e s {y = w} (omega arith), div-eq_of_lt h)

pub digits_below : (w p e s : ℕ) → e < w → s < p → e + w * s < w * p
digits_below w p e s h k = omega (arith, digits_lt k h, mul_comm s w, mul_comm p w)

pub digits_of : (n w : ℕ) → n % w + w * (n / w) ≡ n
digits_of = mod-add-div

-- numbers that are equal have the same digits
pub digits_same : (w e s f t : ℕ) → e < w → f < w → e + w * s ≡ f + w * t → (e ≡ f) × (s ≡ t)
digits_same w e s f t h k q = (cc (digit_low w e s h, digit_low w f t k), cc (digit_high w e s h, digit_high w f t k))

-- n leaves e + w * s modulo w * p exactly when it leaves e modulo w and its quotient leaves s modulo p
pub digit : (n w p e s : ℕ) → e < w → s < p → (n % (w * p) ≡ e + w * s) ↔ ((n % w ≡ e) × (n / w % p ≡ s))
digit n w p e s h k = (λ q. digits_same w (n % w) (n / w % p) e s (mod-lt n (omega arith)) h (cc two), λ d. cc two)
  where
    two : n % (w * p) ≡ n % w + w * (n / w % p)
    two = rw (mul_comm w p) (omega (arith, mod-mul n {m = p} {c = w} (omega arith) (omega arith), mul_comm (n / w % p) w))

-- the higher digit of what n leaves modulo w * p
pub digit_between : (n w p : ℕ) → 0 < w → 0 < p → n % (w * p) / w ≡ n / w % p
digit_between n w p low high =
    let below = mod-lt n low in
    rw ((digit n w p (n % w) (n / w % p) below (mod-lt (n / w) high)).1 (refl, refl)) (digit_high w (n % w) (n / w % p) below)
