-- Laws of fields by shifts and masks, over every width and place. Whatever is made of fields cites these, at its own widths.
-- Assumes nothing.
use mathlib.Core.Path.{◌≡◌, ap, sym, ◌∙◌, subst}
use Prim.Native.Nat.{ℕ, ◌+◌, ◌-◌, ◌*◌, ◌/◌, ◌%◌, ◌^◌, ◌<◌}
use native.Mathlib.Nat.{mod-lt, mod-eq_of_lt, div-one, one-mul, le-add_right, lt_of_le_of_lt}
use lib.Arith.{digits_lt}
use lib.Bits.{bit_and, bit_or, and_mask, or_shifted}
use lib.Pow.{pow_pos, pow-add, pow-lt, shr-shr, mod-pow-add}
use Rattle.bits.specs.Field.{field, joined}

-- The operations

-- a shift down and a mask take a field out: `(n >> place) & (2 ^ width - 1)`
pub shift_and_mask : (width place n : ℕ) → bit_and (n / 2 ^ place) (2 ^ width - 1) ≡ field width place n
unfolding field
shift_and_mask width place n = and_mask (n / 2 ^ place) width

-- a shift up and an or put a field below: `(high << width) | low`, where the word holds it
pub shift_and_or : (bits width high low : ℕ) → low < 2 ^ width → joined width high low < 2 ^ bits
    → bit_or (high * 2 ^ width % 2 ^ bits) low ≡ joined width high low
unfolding joined
shift_and_or bits width high low small fits =
    ap (λ (x : ℕ). bit_or x low) (mod-eq_of_lt (lt_of_le_of_lt (le-add_right (high * 2 ^ width) low) fits))
    ∙ or_shifted high width low small

-- `1 << width` in a wider word is the power of two
pub one_shifted : (bits width : ℕ) → width < bits → 1 * 2 ^ width % 2 ^ bits ≡ 2 ^ width
one_shifted bits width wide = ap (λ (x : ℕ). x % 2 ^ bits) (one-mul (2 ^ width)) ∙ mod-eq_of_lt (pow-lt wide)

-- the same with the mask computed: `(n >> place) & ((1 << width) - 1)`
pub shift_and_made_mask : (bits width place n : ℕ) → width < bits
    → bit_and (n / 2 ^ place) (1 * 2 ^ width % 2 ^ bits - 1) ≡ field width place n
shift_and_made_mask bits width place n wide =
    ap (λ (x : ℕ). bit_and (n / 2 ^ place) (x - 1)) (one_shifted bits width wide) ∙ shift_and_mask width place n

-- Bounds

pub field_below : (width place n : ℕ) → field width place n < 2 ^ width
unfolding field
field_below width place n = mod-lt (n / 2 ^ place) (pow_pos width)

pub joined_below : (wider width high low : ℕ) → high < 2 ^ wider → low < 2 ^ width → joined width high low < 2 ^ (wider + width)
unfolding joined
joined_below wider width high low h l =
    subst (λ (x : ℕ). high * 2 ^ width + low < x) (sym (pow-add 2 wider width)) (digits_lt h l)

-- Fields of what was joined

-- the lowest field of a join is what was put below
pub lowest_of_joined : (width high low : ℕ) → low < 2 ^ width → field width 0 (joined width high low) ≡ low
unfolding field joined
lowest_of_joined width high low small = ap (λ (x : ℕ). x % 2 ^ width) (div-one (high * 2 ^ width + low)) ∙ lib.Pow.low high width small

-- a field above what was put below is a field of the rest
pub higher_of_joined : (wide place width high low : ℕ) → low < 2 ^ width
    → field wide (width + place) (joined width high low) ≡ field wide place high
unfolding field joined
higher_of_joined wide place width high low small =
    ap (λ (x : ℕ). x % 2 ^ wide) (sym (shr-shr (high * 2 ^ width + low) width place) ∙ ap (λ (x : ℕ). x / 2 ^ place) (lib.Pow.high high width small))

-- a number that has no more bits is its own lowest field
pub lowest_of_small : (width n : ℕ) → n < 2 ^ width → field width 0 n ≡ n
unfolding field
lowest_of_small width n small = ap (λ (x : ℕ). x % 2 ^ width) (div-one n) ∙ mod-eq_of_lt small

-- Joining fields

-- two neighbouring fields joined are one field
pub neighbours_joined : (wide width place n : ℕ)
    → joined width (field wide (place + width) n) (field width place n) ≡ field (wide + width) place n
unfolding field joined
neighbours_joined wide width place n =
    ap (λ (x : ℕ). x % 2 ^ wide * 2 ^ width + n / 2 ^ place % 2 ^ width) (sym (shr-shr n place width))
    ∙ sym (mod-pow-add (n / 2 ^ place) wide width)
