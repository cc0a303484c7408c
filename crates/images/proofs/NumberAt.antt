-- Laws of numbers as bits, over every width and place.
-- Assumes nothing.
use Prim.Native.Nat.{ℕ, zero, suc, ◌+◌, ◌*◌, ◌/◌, ◌%◌, ◌^◌, ◌<◌, ◌≤◌}
use native.Mathlib.Omega.{arith}
use native.Mathlib.Nat.{add-zero, add-suc, add_assoc, mod-one, mod-eq_of_lt, pow-suc}
use native.Mathlib.Numerals.{one-add}
use mathlib.Core.Path.{◌≡◌, refl, sym, ap, ap₂, ◌∙◌}
use mathlib.Core.List.{List, [], ◌∷◌, ◌++◌}
use lib.ListN.{length, get_or-append, get_or-eq_default}
use lib.Pow.{high, low, mod-pow-add}
use lib.Seq.{get_or-append-add}
use Rattle.tree.specs.Bits.{field_bits, number_at}
use Rattle.bits.specs.Field.{field}

pub field_length : (width n : ℕ) → length (field_bits width n) ≡ width
unfolding field_bits
field_length zero n = refl
field_length (suc k) n = ap suc (field_length k n)

-- a number of neighbouring fields is made of theirs
pub number_split : (a b at : ℕ) (bits : List ℕ) → number_at (a + b) at bits ≡ number_at a at bits * 2 ^ b + number_at b (at + a) bits
unfolding number_at
number_split a zero at bits = rw (add-zero a) (omega arith)
number_split a (suc b) at bits = rw (add-suc a b, number_split a b at bits, pow-suc 2 b, add_assoc at a b) (omega arith)

pub number_before : (width at : ℕ) (bits more : List ℕ) → at + width ≤ length bits → number_at width at (bits ++ more) ≡ number_at width at bits
unfolding number_at
number_before zero at bits more inside = refl
number_before (suc k) at bits more inside =
    ap₂ (λ (x y : ℕ). 2 * x + y) (number_before k at bits more (omega arith)) (get_or-append bits more 0 (at + k) (omega arith))

pub number_behind : (width at : ℕ) (bits more : List ℕ) → number_at width (length bits + at) (bits ++ more) ≡ number_at width at more
unfolding number_at
number_behind zero at bits more = refl
number_behind (suc k) at bits more =
    ap₂ (λ (x y : ℕ). 2 * x + y) (number_behind k at bits more) (rw (add_assoc (length bits) at k) (get_or-append-add bits more (at + k) 0))

-- behind the last bit there are zeros
pub number_beyond : (width at : ℕ) (bits : List ℕ) → length bits ≤ at → number_at width at bits ≡ 0
unfolding number_at
number_beyond zero at bits beyond = refl
number_beyond (suc k) at bits beyond = rw (number_beyond k at bits beyond, get_or-eq_default bits 0 {n = at + k} (omega arith)) refl

-- a field's bits are its number's lowest
number_of_lowest : (width n : ℕ) (more : List ℕ) → number_at width 0 (field_bits width n ++ more) ≡ n % 2 ^ width
unfolding number_at field_bits
number_of_lowest zero n more = sym (mod-one n)
number_of_lowest (suc k) n more =
    let bits : List ℕ = field_bits (suc k) n ++ more in
    let highest : number_at 1 0 bits ≡ n / 2 ^ k % 2 = omega arith in
    let others : number_at k 1 bits ≡ n % 2 ^ k = number_behind k 0 (n / 2 ^ k % 2 ∷ []) (field_bits k n ++ more) ∙ number_of_lowest k n more in
    ap (λ (width : ℕ). number_at width 0 bits) (sym (one-add k)) ∙ number_split 1 k 0 bits
    ∙ ap₂ (λ (x y : ℕ). x * 2 ^ k + y) highest others
    ∙ sym (mod-pow-add n 1 k) ∙ ap (λ (width : ℕ). n % 2 ^ width) (one-add k)

-- a field's bits are its number's
pub number_of_field : (width n : ℕ) (more : List ℕ) → n < 2 ^ width → number_at width 0 (field_bits width n ++ more) ≡ n
number_of_field width n more fits = number_of_lowest width n more ∙ mod-eq_of_lt fits

-- a field of a number is the number of the bits that stand there
pub number_field : (before width behind at : ℕ) (bits : List ℕ)
    → number_at width (at + before) bits < 2 ^ width
    → number_at behind (at + (before + width)) bits < 2 ^ behind
    → field width behind (number_at (before + width + behind) at bits) ≡ number_at width (at + before) bits
unfolding field
number_field before width behind at bits small small_behind =
    ap (λ (x : ℕ). x / 2 ^ behind % 2 ^ width) (number_split (before + width) behind at bits)
    ∙ ap (λ (x : ℕ). x % 2 ^ width) (high (number_at (before + width) at bits) behind small_behind ∙ number_split before width at bits)
    ∙ low (number_at before at bits) width small
