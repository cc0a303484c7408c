-- An order's three bytes and its four fields (specs/Order.antt) are two ways to write the same 24 bits: each law cites FieldLaws at its own widths.
-- Assumes nothing.
use Prim.Native.Nat.{ℕ, ◌<◌, ◌^◌}
use lib.Pow.{pow_pos}
use mathlib.Core.Path.{◌≡◌, sym, ap, ◌∙◌}
use Rattle.orders.specs.declared.Bytes.{Bytes}
use Rattle.bits.specs.Field.{field, joined}
use Rattle.orders.specs.Order.{order_of, bytes_of, kind, line, period, filler, order_with}
use Rattle.bits.proofs.FieldLaws.{joined_below, lowest_of_joined, higher_of_joined, lowest_of_small, neighbours_joined}

-- Bytes

pub record AreBytes (b : Bytes) : Type 0 where
  pub first : b.0 < 2 ^ 8
  pub second : b.1 < 2 ^ 8
  pub third : b.2 < 2 ^ 8

pub order_below : (b : Bytes) → AreBytes b → order_of b < 2 ^ 24
unfolding order_of
order_below b bytes = joined_below 16 8 _ _ (joined_below 8 8 _ _ bytes.first bytes.second) bytes.third

pub bytes_of_order : (b : Bytes) → AreBytes b → bytes_of (order_of b) ≡ b
unfolding order_of bytes_of
bytes_of_order b bytes = λ i. record { 0 = first i; 1 = second i; 2 = third i }
  where
    first : field 8 16 (joined 8 (joined 8 b.0 b.1) b.2) ≡ b.0
    first =
        higher_of_joined 8 8 8 (joined 8 b.0 b.1) b.2 bytes.third ∙ higher_of_joined 8 0 8 b.0 b.1 bytes.second
        ∙ lowest_of_small 8 b.0 bytes.first

    second : field 8 8 (joined 8 (joined 8 b.0 b.1) b.2) ≡ b.1
    second =
        higher_of_joined 8 0 8 (joined 8 b.0 b.1) b.2 bytes.third ∙ lowest_of_joined 8 b.0 b.1 bytes.second

    third : field 8 0 (joined 8 (joined 8 b.0 b.1) b.2) ≡ b.2
    third = lowest_of_joined 8 (joined 8 b.0 b.1) b.2 bytes.third

pub order_of_bytes : (n : ℕ) → n < 2 ^ 24 → order_of (bytes_of n) ≡ n
unfolding order_of bytes_of
order_of_bytes n small =
    ap (λ (x : ℕ). joined 8 x (field 8 0 n)) (neighbours_joined 8 8 8 n) ∙ neighbours_joined 16 8 0 n ∙ lowest_of_small 24 n small

-- Fields

module _ (k L p : ℕ) (kind_small : k < 2 ^ 2) (line_small : L < 2 ^ 6) (period_small : p < 2 ^ 12) where
  pub order_with_below : order_with k L p < 2 ^ 24
  unfolding order_with
  order_with_below =
      joined_below 20 4 _ _ (joined_below 8 12 _ _ (joined_below 2 6 _ _ kind_small line_small) period_small) (pow_pos 4)

  pub kind_with : kind (order_with k L p) ≡ k
  unfolding kind order_with
  kind_with =
      higher_of_joined 2 18 4 (joined 12 (joined 6 k L) p) 0 (pow_pos 4) ∙ higher_of_joined 2 6 12 (joined 6 k L) p period_small
      ∙ higher_of_joined 2 0 6 k L line_small ∙ lowest_of_small 2 k kind_small

  pub line_with : line (order_with k L p) ≡ L
  unfolding line order_with
  line_with =
      higher_of_joined 6 12 4 (joined 12 (joined 6 k L) p) 0 (pow_pos 4) ∙ higher_of_joined 6 0 12 (joined 6 k L) p period_small
      ∙ lowest_of_joined 6 k L line_small

  pub period_with : period (order_with k L p) ≡ p
  unfolding period order_with
  period_with =
      higher_of_joined 12 0 4 (joined 12 (joined 6 k L) p) 0 (pow_pos 4) ∙ lowest_of_joined 12 (joined 6 k L) p period_small

  pub filler_with : filler (order_with k L p) ≡ 0
  unfolding filler order_with
  filler_with = lowest_of_joined 4 (joined 12 (joined 6 k L) p) 0 (pow_pos 4)

pub order_with_fields : (n : ℕ) → n < 2 ^ 24 → filler n ≡ 0 → order_with (kind n) (line n) (period n) ≡ n
unfolding kind line period filler order_with
order_with_fields n small filler_0 =
    ap (λ (x : ℕ). joined 4 (joined 12 x (field 12 4 n)) 0) (neighbours_joined 2 6 16 n)
    ∙ ap (λ (x : ℕ). joined 4 x 0) (neighbours_joined 8 12 4 n)
    ∙ ap (joined 4 (field 20 4 n)) (sym filler_0)
    ∙ neighbours_joined 20 4 0 n
    ∙ lowest_of_small 24 n small
