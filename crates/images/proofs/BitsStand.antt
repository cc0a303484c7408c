-- Bits that stand at a place: those of fields, one behind the other, and the fields that are read there.
-- Assumes nothing.
use Prim.Native.Nat.{ℕ, ◌+◌, ◌-◌, ◌^◌, ◌<◌, ◌≤◌}
use native.Mathlib.Omega.{arith}
use native.Mathlib.Nat.{zero-add}
use mathlib.Core.Path.{◌≡◌, refl, sym, ap, ap₂, ◌∙◌}
use mathlib.Core.List.{List, [], ◌++◌}
use lib.ListN.{length, get_or, take, drop, length-append, length-drop, take-append-drop}
use Rattle.std.proofs.lemmas.List.{append_assoc, append-nil, length-take-le, drop-drop, drop_at, get_or-take, get_or-drop, ext_get_or}
use Rattle.tree.specs.Calls.{gives}
use Rattle.tree.specs.Bits.{field_bits, number_at}
use Rattle.tree.specs.ImageReading.{Part, read_field}
use Rattle.images.proofs.NumberAt.{field_length, number_behind, number_of_field}
use Rattle.images.proofs.BitsOfBytes.{EachBelow, field_is_bits, number_below, same_bits}
use Rattle.images.proofs.PartsRead.{FieldRead, field_gives}

-- the bits of a part stand at a place, and the next place is the one behind them
pub record BitsStand (part bits : List ℕ) (at next : ℕ) : Type 0 where
  pub next_is : next ≡ at + length part
  pub bits_are : drop at bits ≡ part ++ drop next bits

pub nothing_stands : (bits : List ℕ) (at : ℕ) → BitsStand [] bits at at
nothing_stands bits at = record { next_is = omega arith; bits_are = refl }

-- Two parts, one behind the other

pub both_stand : {front back bits : List ℕ} {at mid next : ℕ} → BitsStand front bits at mid → BitsStand back bits mid next → BitsStand (front ++ back) bits at next
both_stand {front} {back} {bits} {next} first second = record {
  next_is = omega (arith, first.next_is, second.next_is, length-append front back);
  bits_are = first.bits_are ∙ ap (λ (more : List ℕ). front ++ more) second.bits_are ∙ sym (append_assoc front back (drop next bits));
}

pub each_stands : (front back : List ℕ) {bits : List ℕ} {at next : ℕ} → BitsStand (front ++ back) bits at next →
    BitsStand front bits at (at + length front) × BitsStand back bits (at + length front) next
each_stands front back {bits} {at} {next} h =
    let parted : drop at bits ≡ front ++ (back ++ drop next bits) = h.bits_are ∙ append_assoc front back (drop next bits) in
    let behind : drop (at + length front) bits ≡ back ++ drop next bits =
    sym (drop-drop (length front) at bits) ∙ ap (drop (length front)) parted ∙ drop_at front (back ++ drop next bits) (length front) refl in (
      record { next_is = refl; bits_are = parted ∙ ap (λ (more : List ℕ). front ++ more) (sym behind) },
      record { next_is = omega (arith, h.next_is, length-append front back); bits_are = behind },
    )

-- A field

module _ (width n : ℕ) {bits : List ℕ} {at next : ℕ} (stands : BitsStand (field_bits width n) bits at next) (some_bits : 0 < width) where
  field_inside : at + width ≤ length bits
  field_inside =
      let size : length bits - at ≡ width + (length bits - next) =
      sym (length-drop at bits) ∙ ap length stands.bits_are ∙ length-append (field_bits width n) (drop next bits)
      ∙ ap₂ (λ (a b : ℕ). a + b) (field_length width n) (length-drop next bits) in
      omega (arith, size, stands.next_is, field_length width n)

  field_number : n < 2 ^ width → number_at width at bits ≡ n
  field_number fits =
      let front = take at bits in
      let place : at ≡ length front + 0 = omega (arith, length-take-le at bits (omega (arith, field_inside))) in
      ap₂ (number_at width) place (sym (take-append-drop at bits)) ∙ number_behind width 0 front (drop at bits)
      ∙ ap (number_at width 0) stands.bits_are ∙ number_of_field width n (drop next bits) fits

  -- a field that stands at a place is read
  pub field_read : (least most : ℕ) → n < 2 ^ width → least ≤ n → n ≤ most → read_field width least most bits at ≡ gives (record { value = n; next = next })
  field_read least most fits at_least at_most =
      let value = field_number fits in
      let place : at + width ≡ next = omega (arith, stands.next_is, field_length width n) in
      field_gives width least most bits at field_inside (rw value at_least) (rw value at_most)
      ∙ ap₂ (λ (v k : ℕ). gives (record { value = v; next = k })) value place

-- a number that was read is the field that stands there
pub field_stands : {width least most : ℕ} {bits : List ℕ} {at : ℕ} {p : Part ℕ} → EachBelow 2 bits → FieldRead width least most bits at p →
    BitsStand (field_bits width p.value) bits at p.next
field_stands {width} {least} {most} {bits} {at} {p} are_bits read = rw (read.value_is, read.next_is) (record {
  next_is = ap (λ (k : ℕ). at + k) (sym size);
  bits_are =
      sym (take-append-drop width (drop at bits))
      ∙ ap₂ (λ (xs ys : List ℕ). xs ++ ys) (sym bits_there) (drop-drop width at bits);
})
  where
    n : ℕ
    n = number_at width at bits

    size : length (field_bits width n) ≡ width
    size = field_length width n

    taken : length (take width (drop at bits)) ≡ width
    taken = length-take-le width (drop at bits) (omega (arith, read.inside, length-drop at bits))

    number : number_at width 0 (field_bits width n) ≡ n
    number = rw append-nil at (number_of_field width n [] (number_below width at bits are_bits))

    bit : (i : ℕ) → i < width → get_or (field_bits width n) i 0 ≡ get_or (take width (drop at bits)) i 0
    bit i below =
        (rw zero-add at (same_bits width 0 at (field_bits width n) bits (field_is_bits width n) are_bits number i below))
        ∙ sym (get_or-drop at bits i 0) ∙ sym (get_or-take width (drop at bits) i 0 below)

    bits_there : field_bits width n ≡ take width (drop at bits)
    bits_there = ext_get_or 0 (field_bits width n) (take width (drop at bits)) (size ∙ sym taken) (λ i below. bit i (omega (arith, size)))
