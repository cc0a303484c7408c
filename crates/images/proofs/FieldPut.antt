-- Writing a field behind bits that stand in a buffer (specs/Added.antt): the bytes of a word whose bits are those before it, the field, and zeros.
-- Assumes nothing.
use Prim.Native.Nat.{ℕ, zero, suc, ◌+◌, ◌-◌, ◌*◌, ◌/◌, ◌%◌, ◌^◌, ◌<◌, ◌≤◌}
use native.Mathlib.Omega.{arith}
use native.Mathlib.Nat.{add-zero, eq-zero-or-pos, div-eq_of_lt}
use native.Mathlib.Decide.{dec_lt}
use mathlib.Core.Path.{◌≡◌, refl, sym, ap, ◌∙◌}
use mathlib.Core.Logic.{inl, inr}
use mathlib.Core.List.{List, [], ◌++◌, append-nil}
use lib.ListN.{length, get_or, drop, set, length-append, length-drop, get_or-append}
use lib.Pow.{pow_pos, high, shr_lt}
use lib.Seq.{get_or-append_right, get_or-drop, ext_get_or, get_or-set_same, get_or-set_other}
use Rattle.bits.specs.Field.{field, joined}
use Rattle.bits.proofs.FieldLaws.{joined_below}
use Rattle.tree.specs.Bits.{field_bits, number_at, bytes_for, bytes_of}
use Rattle.images.specs.Added.{Holds, Adds, Puttable}
use Rattle.images.proofs.NumberAt.{field_length, number_split, number_before, number_behind, number_beyond, number_of_field, number_field}
use Rattle.images.proofs.BitsOfBytes.{field_is_bits, number_below, bytes_length, byte_at}

-- Bits that a buffer holds

-- byte by byte
record EachHeld (bits before now : List ℕ) : Type 0 where
  size : length now ≡ bytes_for (length bits) + (length before - bytes_for (length bits))
  byte : (k : ℕ) → k < bytes_for (length bits) → get_or now k 0 ≡ number_at 8 (8 * k) bits
  behind : (k : ℕ) → bytes_for (length bits) ≤ k → get_or now k 0 ≡ get_or before k 0

module _ (bits before : List ℕ) where
  each_held : (now : List ℕ) → Holds bits before now → EachHeld bits before now
  each_held now holds =
      let n = bytes_for (length bits) in
      let bytes = bytes_of bits in
      let rest = drop n before in
      let count = bytes_length bits in
      rw holds (record {
        size = omega (arith, length-append bytes rest, count, length-drop n before);
        byte = λ k below. get_or-append bytes rest 0 k (omega (arith, count)) ∙ byte_at bits k below;
        behind = λ k behind.
            let place : n + (k - length bytes) ≡ k = omega (arith, count) in
            get_or-append_right bytes rest k 0 (omega (arith, count)) ∙ get_or-drop n before (k - length bytes) 0
            ∙ ap (λ (i : ℕ). get_or before i 0) place;
      })

  all_held : (now : List ℕ) → EachHeld bits before now → Holds bits before now
  all_held now held =
      let n = bytes_for (length bits) in
      let whole : List ℕ = bytes_of bits ++ drop n before in
      let each = each_held whole refl in
      ext_get_or 0 now whole (held.size ∙ sym each.size) (λ k _. elim (dec_lt k n) [
        | yes below ↦ held.byte k below ∙ sym (each.byte k below)
        | no not_below ↦ let above : n ≤ k = omega (arith, not_below) in held.behind k above ∙ sym (each.behind k above)
      ])

-- The bytes that are written

-- so many bytes of a word of 24 bits were put from an index on, the highest first
pub record BytesPut (word first count : ℕ) (old new : List ℕ) : Type 0 where
  put : (k : ℕ) → k < count → get_or new (first + k) 0 ≡ field 8 (16 - 8 * k) word
  in_front : (i : ℕ) → i < first → get_or new i 0 ≡ get_or old i 0
  behind : (i : ℕ) → first + count ≤ i → get_or new i 0 ≡ get_or old i 0

pub none_put : (word first : ℕ) (old : List ℕ) → BytesPut word first 0 old old
none_put word first old = record { put = λ k below. absurd (omega arith); in_front = λ i h. refl; behind = λ i h. refl }

pub one_more_put : {word first count : ℕ} {old new : List ℕ} → BytesPut word first count old new → first + count < length new
    → (byte : ℕ) → byte ≡ field 8 (16 - 8 * count) word → BytesPut word first (count + 1) old (set new (first + count) byte)
one_more_put {word} {first} {count} {old} {new} so_far inside byte byte_is = record {
  put = λ k below. elim (dec_lt k count) [
    | yes earlier ↦ get_or-set_other new (first + count) (first + k) byte 0 (omega arith) ∙ so_far.put k earlier
    | no not_earlier ↦
        let last : k ≡ count = omega (arith, not_earlier) in
        rw last (get_or-set_same new (first + count) byte 0 inside ∙ byte_is)
  ];
  in_front = λ i h. get_or-set_other new (first + count) i byte 0 (omega arith) ∙ so_far.in_front i h;
  behind = λ i h. get_or-set_other new (first + count) i byte 0 (omega arith) ∙ so_far.behind i (omega arith);
}

-- The word that is written

-- the number of the bits that stand before the field in its first byte
unfoldable pub begun : ℕ → List ℕ → ℕ
begun at old = get_or old (at / 8) 0 / 2 ^ (8 - at % 8)

-- these, the field, and zeros, in 24 bits
unfoldable pub word_with : ℕ → ℕ → ℕ → List ℕ → ℕ
word_with at width number old = joined (24 - at % 8 - width) (joined width (begun at old) number) 0

module _ (at width number : ℕ) (old : List ℕ) (is_byte : get_or old (at / 8) 0 < 256) (puttable : Puttable at width number (length old)) where
  begun_below : begun at old < 2 ^ (at % 8)
  unfolding begun
  begun_below =
      let whole : at % 8 + (8 - at % 8) ≡ 8 = omega arith in
      shr_lt (at % 8) (8 - at % 8) (rw whole is_byte)

  pub front_below : joined width (begun at old) number < 2 ^ (at % 8 + width)
  front_below = joined_below (at % 8) width (begun at old) number begun_below puttable.number_fits

  pub word_below : word_with at width number old < 2 ^ 24
  unfolding word_with
  word_below =
      let filler = 24 - at % 8 - width in
      let whole : at % 8 + width + filler ≡ 24 = omega (arith, puttable.at_most_16) in
      rw whole at (joined_below (at % 8 + width) filler (joined width (begun at old) number) 0 front_below (pow_pos filler))

  module _ (bits before : List ℕ) (long : length bits ≡ at) (held : EachHeld bits before old) where
    abbrev all : List ℕ
    all = bits ++ field_bits width number

    all_length : length all ≡ at + width
    all_length = omega (arith, length-append bits (field_bits width number), field_length width number)

    begun_is : begun at old ≡ number_at (at % 8) (8 * (at / 8)) all
    unfolding begun number_at bytes_for
    begun_is = elim (eq-zero-or-pos (at % 8)) [
      | inl none ↦ rw none (div-eq_of_lt is_byte)
      | inr some ↦
          let start = 8 * (at / 8) in
          let rest = 8 - at % 8 in
          let whole : at % 8 + rest ≡ 8 = omega arith in
          let split = rw whole at (number_split (at % 8) rest start bits) in
          let zeros = number_beyond rest (start + at % 8) bits (omega arith) in
          ap (λ (x : ℕ). x / 2 ^ rest) (held.byte (at / 8) (omega arith) ∙ split ∙ ap (λ (x : ℕ). number_at (at % 8) start bits * 2 ^ rest + x) zeros)
          ∙ high (number_at (at % 8) start bits) rest (pow_pos rest)
          ∙ sym (number_before (at % 8) start bits (field_bits width number) (omega arith))
    ]

    field_is : number_at width (8 * (at / 8) + at % 8) all ≡ number
    field_is =
        let place : 8 * (at / 8) + at % 8 ≡ length bits + 0 = omega arith in
        ap (λ (p : ℕ). number_at width p all) place ∙ number_behind width 0 bits (field_bits width number)
        ∙ (rw append-nil at (number_of_field width number [] puttable.number_fits))

    word_with_is : word_with at width number old ≡ number_at 24 (8 * (at / 8)) all
    unfolding word_with joined
    word_with_is =
        let start = 8 * (at / 8) in
        let used = at % 8 in
        let filler = 24 - used - width in
        let whole : used + width + filler ≡ 24 = omega (arith, puttable.at_most_16) in
        let zeros = number_beyond filler (start + (used + width)) all (omega (arith, all_length)) in
        let split : number_at (used + width + filler) start all ≡ word_with at width number old =
        rw (number_split (used + width) filler start all, number_split used width start all, zeros, field_is, ← begun_is) refl in
        sym (rw whole at split)

    -- behind the bits before there are those of the field
    behind_below : (wide place : ℕ) → at ≤ place → number_at wide place all < 2 ^ wide
    behind_below wide place behind =
        let more = field_bits width number in
        let from : length bits + (place - at) ≡ place = omega arith in
        rw (← from, number_behind wide (place - at) bits more) (number_below wide (place - at) more (field_is_bits width number))

    first_below : number_at 8 (8 * (at / 8)) all < 2 ^ 8
    first_below = omega (arith, word_below, word_with_is, number_split 8 16 (8 * (at / 8)) all)

    byte_below : (k : ℕ) → number_at 8 (8 * (at / 8 + k)) all < 2 ^ 8
    byte_below zero = rw (add-zero (at / 8)) first_below
    byte_below (suc k) = behind_below 8 (8 * (at / 8 + suc k)) (omega arith)

    byte_is : (k : ℕ) → 8 * k < at % 8 + width → field 8 (16 - 8 * k) (word_with at width number old) ≡ number_at 8 (8 * (at / 8 + k)) all
    byte_is k below =
        let start = 8 * (at / 8) in
        let whole : 8 * k + 8 + (16 - 8 * k) ≡ 24 = omega (arith, puttable.at_most_16) in
        let place : start + 8 * k ≡ 8 * (at / 8 + k) = omega arith in
        let small : number_at 8 (start + 8 * k) all < 2 ^ 8 = rw place (byte_below k) in
        let number_is = number_field (8 * k) 8 (16 - 8 * k) start all small (behind_below (16 - 8 * k) (start + (8 * k + 8)) (omega arith)) in
        ap (field 8 (16 - 8 * k)) word_with_is ∙ rw (whole, place) at number_is

    held_after : (new : List ℕ) (count : ℕ) → at / 8 + count ≡ bytes_for (at + width) → length new ≡ length old
        → BytesPut (word_with at width number old) (at / 8) count old new → EachHeld all before new
    unfolding bytes_for
    held_after new count all_bytes same_length written = record {
      size = omega (arith, puttable.has_room, held.size, all_length);
      byte = λ i below. elim (dec_lt i (at / 8)) [
        | yes earlier ↦
            written.in_front i earlier ∙ held.byte i (omega arith) ∙ sym (number_before 8 (8 * i) bits (field_bits width number) (omega arith))
        | no not_earlier ↦
            let k = i - at / 8 in
            let place : at / 8 + k ≡ i = omega (arith, not_earlier) in
            rw place at (written.put k (omega (arith, all_length)) ∙ byte_is k (omega (arith, all_length)))
      ];
      behind = λ i behind. written.behind i (omega (arith, all_length)) ∙ held.behind i (omega (arith, all_length));
    }

  -- with all its bytes put, the field stands behind what stood there
  pub field_added : (new : List ℕ) (count : ℕ) → at / 8 + count ≡ bytes_for (at + width) → length new ≡ length old
      → BytesPut (word_with at width number old) (at / 8) count old new → Adds at (field_bits width number) old new
  unfolding Adds
  field_added new count all_bytes same_length written bits before long holds =
      all_held (bits ++ field_bits width number) before new (held_after bits before long (each_held bits before old holds) new count all_bytes same_length written)
