-- Bytes as bits, and bits as bytes.
-- Assumes nothing.
use Prim.Native.Nat.{ℕ, zero, suc, ◌+◌, ◌-◌, ◌*◌, ◌/◌, ◌%◌, ◌^◌, ◌<◌}
use native.Mathlib.Omega.{arith}
use native.Mathlib.Nat.{mod-lt, pow-suc}
use mathlib.Core.Path.{◌≡◌, refl, sym, ap, ◌∙◌}
use mathlib.Core.Logic.{inl, inr}
use mathlib.Core.List.{List, [], ◌∷◌, ◌++◌}
use lib.ListN.{length, get_or, replicate, drop, length-append, length-replicate, length-drop, get_or-replicate}
use lib.Seq.{ext_get_or, get_or-drop}
use Rattle.std.specs.Int.{div_ceil}
use Rattle.tree.specs.Search.{each_below}
use Rattle.tree.proofs.Searching.{last_or_below, each_below_length, each_below_at}
use Rattle.tree.specs.Bits.{field_bits, number_at, bytes_for, bytes_of, bits_of}
use Rattle.images.proofs.NumberAt.{field_length, number_behind, number_beyond, number_of_field}

-- the numbers of a list are all below a bound: 2 where they are bits, 256 where they are bytes
unfoldable pub EachBelow : ℕ → List ℕ → Type 0
EachBelow bound [] = Unit {0}
EachBelow bound (x ∷ xs) = (x < bound) × EachBelow bound xs

pub both_below : (bound : ℕ) (xs ys : List ℕ) → EachBelow bound xs → EachBelow bound ys → EachBelow bound (xs ++ ys)
unfolding EachBelow
both_below bound [] ys front back = back
both_below bound (x ∷ xs) ys front back = (front.0, both_below bound xs ys front.1 back)

pub field_is_bits : (width n : ℕ) → EachBelow 2 (field_bits width n)
unfolding EachBelow field_bits
field_is_bits zero n = tt
field_is_bits (suc k) n = (mod-lt (n / 2 ^ k) (omega arith), field_is_bits k n)

pub bits_length : (bytes : List ℕ) → length (bits_of bytes) ≡ 8 * length bytes
unfolding bits_of
bits_length [] = refl
bits_length (b ∷ bs) = omega (arith, length-append (field_bits 8 b) (bits_of bs), field_length 8 b, bits_length bs)

pub bits_are_bits : (bytes : List ℕ) → EachBelow 2 (bits_of bytes)
unfolding EachBelow bits_of
bits_are_bits [] = tt
bits_are_bits (b ∷ bs) = both_below 2 (field_bits 8 b) (bits_of bs) (field_is_bits 8 b) (bits_are_bits bs)

-- eight bits are their byte
pub byte_in_bits : (bytes : List ℕ) (k : ℕ) → EachBelow 256 bytes → number_at 8 (8 * k) (bits_of bytes) ≡ get_or bytes k 0
unfolding EachBelow bits_of
byte_in_bits [] k are_bytes = number_beyond 8 (8 * k) [] (omega arith)
byte_in_bits (b ∷ bs) zero are_bytes = number_of_field 8 b (bits_of bs) are_bytes.0
byte_in_bits (b ∷ bs) (suc k) are_bytes =
    let place : 8 * suc k ≡ length (field_bits 8 b) + 8 * k = omega (arith, field_length 8 b) in
    ap (λ (at : ℕ). number_at 8 at (field_bits 8 b ++ bits_of bs)) place
    ∙ number_behind 8 (8 * k) (field_bits 8 b) (bits_of bs) ∙ byte_in_bits bs k are_bytes.1

-- Numbers of bits

below_at : (bound : ℕ) (xs : List ℕ) (i : ℕ) → 0 < bound → EachBelow bound xs → get_or xs i 0 < bound
unfolding EachBelow
below_at bound [] i some each = some
below_at bound (x ∷ xs) zero some each = each.0
below_at bound (x ∷ xs) (suc i) some each = below_at bound xs i some each.1

pub below_each : (bound : ℕ) (xs : List ℕ) → ((i : ℕ) → get_or xs i 0 < bound) → EachBelow bound xs
unfolding EachBelow
below_each bound [] at = tt
below_each bound (x ∷ xs) at = (at 0, below_each bound xs (λ i. at (suc i)))

pub number_below : (width at : ℕ) (bits : List ℕ) → EachBelow 2 bits → number_at width at bits < 2 ^ width
unfolding number_at
number_below zero at bits are_bits = omega arith
number_below (suc k) at bits are_bits =
    omega (arith, number_below k at bits are_bits, below_at 2 bits (at + k) (omega arith) are_bits, pow-suc 2 k)

-- bits that make the same number are the same
pub same_bits : (width at place : ℕ) (bits others : List ℕ) → EachBelow 2 bits → EachBelow 2 others → number_at width at bits ≡ number_at width place others →
    (i : ℕ) → i < width → get_or bits (at + i) 0 ≡ get_or others (place + i) 0
unfolding number_at
same_bits zero at place bits others are_bits are_others same i below = absurd (omega arith)
same_bits (suc k) at place bits others are_bits are_others same i below =
    let last = below_at 2 bits (at + k) (omega arith) are_bits in
    let other = below_at 2 others (place + k) (omega arith) are_others in
    elim (last_or_below i k below) [
      | inl is_last ↦ rw is_last (omega (arith, last, other))
      | inr earlier ↦ same_bits k at place bits others are_bits are_others (omega (arith, last, other)) i earlier
    ]

-- zeros behind bits change none of them
zeros_change_no_bit : (bits : List ℕ) (m i : ℕ) → get_or (bits ++ replicate m 0) i 0 ≡ get_or bits i 0
zeros_change_no_bit [] zero i = refl
zeros_change_no_bit [] (suc m) zero = refl
zeros_change_no_bit [] (suc m) (suc i) = zeros_change_no_bit [] m i
zeros_change_no_bit (b ∷ bs) m zero = refl
zeros_change_no_bit (b ∷ bs) m (suc i) = zeros_change_no_bit bs m i

pub number_of_zeros : (width at m : ℕ) → number_at width at (replicate m 0) ≡ 0
unfolding number_at
number_of_zeros zero at m = refl
number_of_zeros (suc k) at m = omega (arith, number_of_zeros k at m, zeros_change_no_bit [] m (at + k))

-- bits whose number is 0 are zeros
pub zeros_there : (width at : ℕ) (bits : List ℕ) → EachBelow 2 bits → length bits ≡ at + width → number_at width at bits ≡ 0 → drop at bits ≡ replicate width 0
unfolding EachBelow
zeros_there width at bits are_bits size is_0 =
    ext_get_or 0 (drop at bits) (replicate width 0) (rest ∙ sym (length-replicate width 0)) (λ i below. bit i (omega (arith, rest)))
  where
    rest : length (drop at bits) ≡ width
    rest = omega (arith, size, length-drop at bits)

    bit : (i : ℕ) → i < width → get_or (drop at bits) i 0 ≡ get_or (replicate width 0) i 0
    bit i below =
        get_or-drop at bits i 0
        ∙ same_bits width at 0 bits [] are_bits tt (is_0 ∙ sym (number_beyond width 0 [] (omega arith))) i below
        ∙ sym (get_or-replicate width i 0 0 below)

-- The bytes of bits

pub bytes_needed : (count : ℕ) → div_ceil count 8 ≡ bytes_for count
unfolding bytes_for
bytes_needed count = omega arith

pub bytes_length : (bits : List ℕ) → length (bytes_of bits) ≡ bytes_for (length bits)
unfolding bytes_of
bytes_length bits = each_below_length (bytes_for (length bits)) (λ k. number_at 8 (8 * k) bits)

pub byte_at : (bits : List ℕ) (k : ℕ) → k < bytes_for (length bits) → get_or (bytes_of bits) k 0 ≡ number_at 8 (8 * k) bits
unfolding bytes_of
byte_at bits k below = each_below_at (bytes_for (length bits)) (λ k. number_at 8 (8 * k) bits) k 0 below

listed_below : (bound n : ℕ) (what : ℕ → ℕ) → ((k : ℕ) → what k < bound) → EachBelow bound (each_below n what)
unfolding EachBelow each_below
listed_below bound zero what below = tt
listed_below bound (suc n) what below = both_below bound (each_below n what) (what n ∷ []) (listed_below bound n what below) (below n, tt)

pub bytes_are_bytes : (bits : List ℕ) → EachBelow 2 bits → EachBelow 256 (bytes_of bits)
unfolding bytes_of
bytes_are_bytes bits are_bits = listed_below 256 (bytes_for (length bits)) (λ k. number_at 8 (8 * k) bits) (λ k. number_below 8 (8 * k) bits are_bits)

-- how many bits fill the last byte
abbrev pub fill_length : List ℕ → ℕ
fill_length bits = 8 * bytes_for (length bits) - length bits

-- the bits of the bytes of bits are those bits, and zeros that fill the last byte
pub bits_back : (bits : List ℕ) → EachBelow 2 bits → bits_of (bytes_of bits) ≡ bits ++ replicate (fill_length bits) 0
unfolding bytes_for
bits_back bits are_bits =
    ext_get_or 0 (bits_of (bytes_of bits)) (bits ++ replicate (fill_length bits) 0) same_length
    (λ i below. bit i (omega (arith, all)) ∙ sym (zeros_change_no_bit bits (fill_length bits) i))
  where
    all : length (bits_of (bytes_of bits)) ≡ 8 * bytes_for (length bits)
    all = bits_length (bytes_of bits) ∙ ap (λ (n : ℕ). 8 * n) (bytes_length bits)

    same_length : length (bits_of (bytes_of bits)) ≡ length (bits ++ replicate (fill_length bits) 0)
    same_length = omega (arith, all, length-append bits (replicate (fill_length bits) 0), length-replicate {A = ℕ} (fill_length bits) 0)

    number : (k : ℕ) → k < bytes_for (length bits) → number_at 8 (8 * k) (bits_of (bytes_of bits)) ≡ number_at 8 (8 * k) bits
    number k below = byte_in_bits (bytes_of bits) k (bytes_are_bytes bits are_bits) ∙ byte_at bits k below

    bit : (i : ℕ) → i < 8 * bytes_for (length bits) → get_or (bits_of (bytes_of bits)) i 0 ≡ get_or bits i 0
    bit i below =
        let k = i / 8 in
        let place : 8 * k + i % 8 ≡ i = omega arith in
        let same = same_bits 8 (8 * k) (8 * k) (bits_of (bytes_of bits)) bits (bits_are_bits (bytes_of bits)) are_bits (number k (omega arith)) (i % 8) (omega arith) in
        rw place at same

-- the bytes of the bits of bytes are those bytes
pub bytes_back : (bytes : List ℕ) → EachBelow 256 bytes → bytes_of (bits_of bytes) ≡ bytes
unfolding bytes_for
bytes_back bytes are_bytes =
    let count : bytes_for (length (bits_of bytes)) ≡ length bytes = omega (arith, bits_length bytes) in
    ext_get_or 0 (bytes_of (bits_of bytes)) bytes (bytes_length (bits_of bytes) ∙ count)
    (λ k below. byte_at (bits_of bytes) k (omega (arith, bytes_length (bits_of bytes))) ∙ byte_in_bits bytes k are_bytes)

-- bytes with the same bits are the same
pub same_bytes : (bytes others : List ℕ) → EachBelow 256 bytes → EachBelow 256 others → bits_of bytes ≡ bits_of others → bytes ≡ others
same_bytes bytes others are_bytes are_others same = sym (bytes_back bytes are_bytes) ∙ ap bytes_of same ∙ bytes_back others are_others
