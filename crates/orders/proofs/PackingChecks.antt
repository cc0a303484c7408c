-- Packing (specs/Packing.antt), check by check: which arguments are refused with which number, and which are packed.
-- Assumes nothing.
use Prim.Native.Nat.{ℕ, ◌<◌, ◌≤◌}
use native.Mathlib.Omega.{arith}
use mathlib.Core.Path.{◌≡◌, refl}
use mathlib.Core.Bool.{Bool, true, false}
use lib.Dec.{eqb}
use borrow.Author.Tests.{lt-ltb, le-ltb, eq-eqb, ne_eqb, eqb-true}
use Rattle.tree.specs.Refusals.{first_refusal, line_above_63}
use Rattle.tree.specs.Calls.{gives, refuses, gives_unless}
use Rattle.orders.specs.declared.Bytes.{Bytes}
use Rattle.orders.specs.Order.{bytes_of, order_with}
use Rattle.orders.specs.Packing.{kind_above_1, period_above_4095, close_with_period, packing_refusal, packing}

-- a close with a period is refused, anything else passes
pub closes_with_period : (k p : ℕ) → k ≡ 1 → (p ≡ 0 → ⊥) → close_with_period k p ≡ true
unfolding close_with_period
closes_with_period k p is_close some_period = rw (eq-eqb k 1 is_close, ne_eqb p 0 some_period)

pub closes_with_no_period : (k p : ℕ) → (k ≡ 1 → p ≡ 0) → close_with_period k p ≡ false
unfolding close_with_period
closes_with_no_period k p plain = go (eqb k 1) refl
  where
    go : (b : Bool) → eqb k 1 ≡ b → close_with_period k p ≡ false
    go true e = rw (e, eq-eqb p 0 (plain (eqb-true k 1 e)))
    go false e = rw e

module _ (k L p : ℕ) where
  pub kind_refused : 1 < k → packing k L p ≡ refuses 6
  unfolding packing packing_refusal first_refusal gives_unless kind_above_1
  kind_refused kind_large = rw (lt-ltb 1 k kind_large)

  pub line_refused : k ≤ 1 → 63 < L → packing k L p ≡ refuses 1
  unfolding packing packing_refusal first_refusal gives_unless kind_above_1 line_above_63
  line_refused kind_small line_large = rw (le-ltb 1 k kind_small, lt-ltb 63 L line_large)

  pub period_refused : k ≤ 1 → L ≤ 63 → 4095 < p → packing k L p ≡ refuses 2
  unfolding packing packing_refusal first_refusal gives_unless kind_above_1 line_above_63 period_above_4095
  period_refused kind_small line_small period_large = rw (le-ltb 1 k kind_small, le-ltb 63 L line_small, lt-ltb 4095 p period_large)

  pub close_refused : L ≤ 63 → p ≤ 4095 → k ≡ 1 → (p ≡ 0 → ⊥) → packing k L p ≡ refuses 6
  unfolding packing packing_refusal first_refusal gives_unless kind_above_1 line_above_63 period_above_4095
  close_refused line_small period_small is_close some_period =
      rw (le-ltb 1 k (omega arith), le-ltb 63 L line_small, le-ltb 4095 p period_small, closes_with_period k p is_close some_period)

  -- what passes every check
  pub record Packable : Type 0 where
    pub kind_small : k ≤ 1
    pub line_small : L ≤ 63
    pub period_small : p ≤ 4095
    pub close_plain : k ≡ 1 → p ≡ 0

  pub packs : Packable → packing k L p ≡ gives (bytes_of (order_with k L p))
  unfolding packing packing_refusal first_refusal gives_unless kind_above_1 line_above_63 period_above_4095
  packs a =
      rw (le-ltb 1 k a.kind_small, le-ltb 63 L a.line_small, le-ltb 4095 p a.period_small, closes_with_no_period k p a.close_plain)

  -- only what passes every check is packed
  pub packed_is_packable : (b : Bytes) → packing k L p ≡ gives b → Packable
  packed_is_packable b packed = record {
    kind_small = kind_small;
    line_small = line_small;
    period_small = period_small;
    close_plain = λ is_close. close_plain is_close;
  }
    where
      never : (n : ℕ) → packing k L p ≡ refuses n → ⊥
      never n refused = let z : ◌≡◌ {A = ℕ} 0 1 = cc in omega arith

      kind_small : k ≤ 1
      kind_small = let small : 1 < k → ⊥ = λ h. never 6 (kind_refused h) in omega arith

      line_small : L ≤ 63
      line_small = let small : 63 < L → ⊥ = λ h. never 1 (line_refused kind_small h) in omega arith

      period_small : p ≤ 4095
      period_small = let small : 4095 < p → ⊥ = λ h. never 2 (period_refused kind_small line_small h) in omega arith

      close_plain : k ≡ 1 → p ≡ 0
      close_plain is_close =
          let plain : 0 < p → ⊥ = λ h. never 6 (close_refused line_small period_small is_close (λ z. omega arith)) in omega arith
