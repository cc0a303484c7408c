-- Bits added behind bits: nothing, two lists of bits one behind the other, a field, and all from the first bit on (specs/Added.antt, specs/Writing.antt).
-- Assumes nothing.
use Prim.Native.Nat.{ℕ, ◌+◌}
use native.Mathlib.Omega.{arith}
use mathlib.Core.Path.{◌≡◌, refl, sym, ◌∙◌, ap}
use mathlib.Core.List.{List, [], ◌++◌, append-nil, append_assoc}
use lib.ListN.{length, length-append}
use Rattle.tree.specs.Search.{each_below}
use Rattle.tree.specs.Bits.{field_bits, bytes_for, bytes_of}
use Rattle.images.specs.Added.{Holds, Adds}
use Rattle.images.specs.Writing.{BitsWritten}
use Rattle.images.proofs.NumberAt.{field_length}

module _ (at : ℕ) where
  adds_nothing : (a : List ℕ) → Adds at [] a a
  unfolding Adds
  adds_nothing a bits before long holds = rw append-nil holds

  adds_both : (xs ys a b c : List ℕ) → Adds at xs a b → Adds (at + length xs) ys b c → Adds at (xs ++ ys) a c
  unfolding Adds
  adds_both xs ys a b c first second bits before long holds =
      let both_long : length (bits ++ xs) ≡ at + length xs = length-append bits xs ∙ ap (λ (n : ℕ). n + length xs) long in
      rw (← append_assoc bits xs ys) (second (bits ++ xs) before both_long (first bits before long holds))

-- the bits behind nothing stand in front of the buffer
pub adds_all : (xs a b : List ℕ) → Adds 0 xs a b → Holds xs a b
unfolding Adds bytes_of bytes_for each_below
adds_all xs a b added = added [] a refl refl

-- With the place behind the bits

pub written_none : (at : ℕ) (a : List ℕ) → BitsWritten at [] a a at
written_none at a = record { added = adds_nothing at a; next_is = omega arith }

pub written_both : {at next last : ℕ} {xs ys a b c : List ℕ} → BitsWritten at xs a b next → BitsWritten next ys b c last → BitsWritten at (xs ++ ys) a c last
written_both {at} {next} {last} {xs} {ys} {a} {b} {c} first second = record {
  added = adds_both at xs ys a b c first.added (rw first.next_is at second.added);
  next_is = omega (arith, first.next_is, second.next_is, length-append xs ys);
}

-- a field was written
pub written_field : (at width n next : ℕ) {a b : List ℕ} → Adds at (field_bits width n) a b → next ≡ at + width → BitsWritten at (field_bits width n) a b next
written_field at width n next added next_is = record { added = added; next_is = next_is ∙ sym (ap (λ (k : ℕ). at + k) (field_length width n)) }
