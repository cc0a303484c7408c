-- One more mark (specs/Edges.antt): a bit that is set by an or with a power of two changes no other.
-- Assumes nothing.
use Prim.Native.Nat.{ℕ, zero, suc, ◌*◌, ◌/◌, ◌%◌, ◌^◌, ◌<◌}
use native.Mathlib.Decide.{ℕ_discrete}
use native.Mathlib.Omega.{arith}
use native.Mathlib.Nat.{mod-lt, zero-div}
use mathlib.Core.Path.{◌≡◌, refl, sym, ◌∙◌, ap}
use mathlib.Core.Bool.{false, ◌||◌, or-true, or-false}
use mathlib.Core.List.{List}
use lib.Bits.{bit_or}
use Rattle.std.proofs.lemmas.Nat.{one_shl}
use Rattle.std.proofs.lemmas.Nat.Bits.{bit_at_or, bit_at-pow_same, bit_at-pow_other, bit_at-lt}
use lib.Dec.{eqb}
use lib.ListN.{length, get_or, set, replicate, length-set}
use lib.Seq.{get_or-set_same, get_or-set_other}
use borrow.Author.Tests.{eq-eqb, ne_eqb}
use Rattle.candidates.specs.Edges.{marked, with_mark}

-- the bit at place c of a number after the bit at place b was set
bit_after_or : (x b c : ℕ) → eqb (bit_or x (2 ^ b) / 2 ^ c % 2) 1 ≡ (eqb (x / 2 ^ c % 2) 1 || eqb b c)
bit_after_or x b c =
    elim (ℕ_discrete b c) [
      | yes same ↦
          let is_set : bit_or x (2 ^ b) / 2 ^ c % 2 ≡ 1 = rw same (omega (arith, bit_at_or x (2 ^ c) c, bit_at-pow_same c, bit_at-lt x c)) in
          rw (is_set, eq-eqb b c same) (sym (or-true (eqb (x / 2 ^ c % 2) 1)))
      | no other ↦
          let as_before : bit_or x (2 ^ b) / 2 ^ c % 2 ≡ x / 2 ^ c % 2 = omega (arith, bit_at_or x (2 ^ b) c, bit_at-pow_other b c (λ same. other (sym same))) in
          rw (as_before, ne_eqb b c other) (sym (or-false (eqb (x / 2 ^ c % 2) 1)))
    ]

pub zero_entry : (n k : ℕ) → ◌≡◌ {A = ℕ} (get_or (replicate n 0) k 0) 0
zero_entry zero k = refl
zero_entry (suc n) zero = refl
zero_entry (suc n) (suc k) = zero_entry n k

pub none_marked : (e : ℕ) → marked (replicate 64 0) e ≡ false
unfolding marked
none_marked e = rw (zero_entry 64 (e / 64), zero-div (2 ^ (e % 64)))

-- the bit is `1 << (e % 64)` in a word of 64 bits
pub shifted_mark : (words : List ℕ) (e : ℕ) → set words (e / 64) (bit_or (get_or words (e / 64) 0) (1 * 2 ^ (e % 64) % 2 ^ 64)) ≡ with_mark words e
unfolding with_mark
shifted_mark words e = rw (one_shl (e % 64) 64 (mod-lt e (omega arith)))

-- two edges of one word are the same where their bits are
same_place : (e k : ℕ) → k / 64 ≡ e / 64 → eqb (e % 64) (k % 64) ≡ eqb e k
same_place e k one_word =
    elim (ℕ_discrete (e % 64) (k % 64)) [
      | yes same ↦ eq-eqb (e % 64) (k % 64) same ∙ sym (eq-eqb e k (omega arith))
      | no other ↦ ne_eqb (e % 64) (k % 64) other ∙ sym (ne_eqb e k (λ same. other (ap (λ (n : ℕ). n % 64) same)))
    ]

pub with_mark_length : (words : List ℕ) (e : ℕ) → length (with_mark words e) ≡ length words
unfolding with_mark
with_mark_length words e = length-set words (e / 64) _

-- with the bit of edge e set, that edge is marked as well
pub marked_more : (words : List ℕ) (e : ℕ) → e / 64 < length words → (k : ℕ) → marked (with_mark words e) k ≡ (marked words k || eqb e k)
unfolding marked with_mark
marked_more words e inside k =
    elim (ℕ_discrete (k / 64) (e / 64)) [
      | yes one_word ↦
          rw (one_word, get_or-set_same words (e / 64) word 0 inside, bit_after_or (get_or words (e / 64) 0) (e % 64) (k % 64), same_place e k one_word)
      | no other ↦
          rw (get_or-set_other words (e / 64) (k / 64) word 0 other, ne_eqb e k (λ same. other (ap (λ (n : ℕ). n / 64) (sym same))))
          (sym (or-false (eqb (get_or words (k / 64) 0 / 2 ^ (k % 64) % 2) 1)))
    ]
  where
    word : ℕ
    word = bit_or (get_or words (e / 64) 0) (2 ^ (e % 64))
