-- A field of bytes is a field of the word that the three bytes in which it stands are.
-- Assumes nothing.
use Prim.Native.Nat.{ℕ, ◌+◌, ◌-◌, ◌*◌, ◌/◌, ◌%◌, ◌≤◌}
use native.Mathlib.Omega.{arith}
use native.Mathlib.Nat.{mul-add}
use mathlib.Core.Path.{◌≡◌, ap, ◌∙◌}
use mathlib.Core.List.{List}
use lib.ListN.{get_or}
use Rattle.bits.specs.Field.{field, joined}
use Rattle.tree.specs.Bits.{number_at, bits_of}
use Rattle.images.proofs.NumberAt.{number_split, number_field}
use Rattle.images.proofs.BitsOfBytes.{EachBelow, bits_are_bits, byte_in_bits, number_below}

-- the word of the three bytes from an index on
unfoldable pub word_from : ℕ → List ℕ → ℕ
word_from k bytes = joined 8 (joined 8 (get_or bytes k 0) (get_or bytes (k + 1) 0)) (get_or bytes (k + 2) 0)

module _ (bytes : List ℕ) (are_bytes : EachBelow 256 bytes) where
  word_from_is : (k : ℕ) → word_from k bytes ≡ number_at 24 (8 * k) (bits_of bytes)
  unfolding word_from joined
  word_from_is k =
      let bits : List ℕ = bits_of bytes in
      let second : number_at 8 (8 * k + 8) bits ≡ get_or bytes (k + 1) 0 = rw (mul-add 8 k 1) at (byte_in_bits bytes (k + 1) are_bytes) in
      let third : number_at 8 (8 * k + 16) bits ≡ get_or bytes (k + 2) 0 = rw (mul-add 8 k 2) at (byte_in_bits bytes (k + 2) are_bytes) in
      omega (arith, byte_in_bits bytes k are_bytes, second, third, number_split 16 8 (8 * k) bits, number_split 8 8 (8 * k) bits)

  pub field_in_word : (width at : ℕ) → width ≤ 16 → field width (24 - at % 8 - width) (word_from (at / 8) bytes) ≡ number_at width at (bits_of bytes)
  field_in_word width at at_most_16 =
      let bits : List ℕ = bits_of bytes in
      let before = at % 8 in
      let behind = 24 - before - width in
      let whole : before + width + behind ≡ 24 = omega arith in
      let place : 8 * (at / 8) + before ≡ at = omega arith in
      let number = number_field before width behind (8 * (at / 8)) bits (number_below width _ bits (bits_are_bits bytes)) (number_below behind _ bits (bits_are_bits bytes)) in
      ap (field width behind) (word_from_is (at / 8)) ∙ rw (whole, place) at number
