-- The image of legal lines is read as their tree, and what is read is the image of legal lines.
-- Assumes nothing.
use Rattle.std.specs.Prelude.{None}
use Prim.Native.Nat.{ℕ, ◌+◌, ◌-◌, ◌*◌, ◌≤◌}
use native.Mathlib.Omega.{arith}
use native.Mathlib.Nat.{add-zero}
use mathlib.Core.Path.{◌≡◌, refl, sym, ap, ap₂, subst, ◌∙◌}
use mathlib.Core.Bool.{true, not}
use mathlib.Core.List.{List, ◌++◌}
use lib.Dec.{eqb, ltb}
use lib.ListN.{length, drop, replicate, length-append, length-drop}
use borrow.Author.Tests.{ltb-false, le-ltb, eqb-true, eq-eqb, not-false}
use Rattle.tree.specs.Tree.{Tree}
use Rattle.tree.specs.Shape.{Legal}
use Rattle.tree.specs.Refusals.{first_refusal}
use Rattle.tree.specs.Calls.{gives, gives_unless}
use Rattle.tree.specs.Bits.{number_at, bytes_for, bytes_of, bits_of}
use Rattle.tree.specs.Image.{PlanLine, image_bits, image}
use Rattle.tree.specs.ImageReading.{Part, and_then, legal_lines, tree_of_lines, behind_refusal, read_plan, read_outcome}
use Rattle.tree.proofs.Checks.{none_strikes, unless_given}
use Rattle.images.proofs.NumberAt.{number_behind}
use Rattle.images.proofs.BitsOfBytes.{EachBelow, bits_length, bits_are_bits, number_of_zeros, zeros_there, bytes_length, bytes_are_bytes, fill_length, bits_back, same_bytes}
use Rattle.images.proofs.LineFits.{AllFit}
use Rattle.images.proofs.LinesOfTree.{lines_tree_legal, lines_of_their_tree}
use Rattle.images.proofs.PartsRead.{then_given}
use Rattle.images.proofs.ImageBits.{image_is_bits}
use Rattle.images.proofs.ReadBack.{lines_read_back, LinesStand, lines_stand}

-- The checks behind the last field

-- no byte and no set bit stand behind the last field, and the lines are legal
record NothingBehind (bytes : List ℕ) (plan : Part (List PlanLine)) : Type 0 where
  no_byte : length bytes ≤ bytes_for plan.next
  no_bit : number_at (8 * bytes_for plan.next - plan.next) plan.next (bits_of bytes) ≡ 0
  are_legal : legal_lines plan.value ≡ true

nothing_refused : (bytes : List ℕ) (plan : Part (List PlanLine)) → NothingBehind bytes plan → behind_refusal bytes plan ≡ None
unfolding behind_refusal first_refusal
nothing_refused bytes plan h = rw (le-ltb (bytes_for plan.next) (length bytes) h.no_byte, eq-eqb _ 0 h.no_bit, h.are_legal) refl

nothing_behind : (bytes : List ℕ) (plan : Part (List PlanLine)) → behind_refusal bytes plan ≡ None → NothingBehind bytes plan
unfolding behind_refusal first_refusal
nothing_behind bytes plan h =
    let one = none_strikes (ltb (bytes_for plan.next) (length bytes)) 13 _ h in
    let two = none_strikes (not (eqb (number_at (8 * bytes_for plan.next - plan.next) plan.next (bits_of bytes)) 0)) 14 _ one.1 in
    let three = none_strikes (not (legal_lines plan.value)) 14 _ two.1 in
    record {
      no_byte = ltb-false (bytes_for plan.next) (length bytes) one.0;
      no_bit = eqb-true _ 0 (not-false _ two.0);
      are_legal = not-false _ three.0;
    }

-- The image of lines is read as their tree

pub lines_outcome : (xs : List PlanLine) → AllFit xs → length xs ≤ 64 → legal_lines xs ≡ true → read_outcome (bytes_of (image_bits xs)) ≡ gives (tree_of_lines xs)
unfolding read_outcome and_then gives_unless
lines_outcome xs fit at_most_64 are_legal = rw (read, nothing_refused bytes plan behind) refl
  where
    bits : List ℕ
    bits = image_bits xs

    bytes : List ℕ
    bytes = bytes_of bits

    plan : Part (List PlanLine)
    plan = record { value = xs; next = length bits }

    back : bits_of bytes ≡ bits ++ replicate (fill_length bits) 0
    back = bits_back bits (image_is_bits xs)

    read : read_plan (bits_of bytes) ≡ gives plan
    read = rw back (lines_read_back xs (replicate (fill_length bits) 0) fit at_most_64)

    behind : NothingBehind bytes plan
    behind = record {
      no_byte = omega (arith, bytes_length bits);
      no_bit =
          let fill = fill_length bits in
          ap₂ (number_at fill) (sym (add-zero (length bits))) back ∙ number_behind fill 0 bits (replicate fill 0) ∙ number_of_zeros fill 0 fill;
      are_legal = are_legal;
    }

-- What is read is the image of legal lines

-- the lines of which bytes were read as a tree
pub record LegalLinesOf (bytes : List ℕ) (t : Tree) : Type 0 where
  plan : Part (List PlanLine)
  stand : LinesStand (bits_of bytes) plan
  nothing_behind : NothingBehind bytes plan
  tree_is : tree_of_lines plan.value ≡ t

pub legal_lines_of : (bytes : List ℕ) (t : Tree) → read_outcome bytes ≡ gives t → LegalLinesOf bytes t
unfolding read_outcome
legal_lines_of bytes t h =
    let read = then_given (read_plan (bits_of bytes)) _ t h in
    let tree = unless_given (behind_refusal bytes read.0) _ t read.2 in
    record {
      plan = read.0;
      stand = lines_stand (bits_of bytes) read.0 (bits_are_bits bytes) read.1;
      nothing_behind = nothing_behind bytes read.0 tree.0;
      tree_is = tree.1;
    }

module _ (bytes : List ℕ) (t : Tree) (h : LegalLinesOf bytes t) where
  pub tree_is_legal : Legal t
  tree_is_legal = subst Legal h.tree_is (lines_tree_legal h.plan.value h.stand.fit h.nothing_behind.are_legal)

  bits : List ℕ
  bits = image_bits h.plan.value

  -- the last byte is the one that holds the last bit
  all_bits : length (bits_of bytes) ≡ length bits + fill_length bits
  unfolding bytes_for bits
  all_bits =
      let read = h.stand.next_is in
      let behind = ap length h.stand.bits_are ∙ length-append bits (drop h.plan.next (bits_of bytes)) in
      omega (arith, read, behind, length-drop h.plan.next (bits_of bytes), bits_length bytes, rw read at h.nothing_behind.no_byte)

  fill_bits_are_zeros : drop (length bits) (bits_of bytes) ≡ replicate (fill_length bits) 0
  unfolding bits
  fill_bits_are_zeros = zeros_there (fill_length bits) (length bits) (bits_of bytes) (bits_are_bits bytes) all_bits (rw h.stand.next_is at h.nothing_behind.no_bit)

  bits_are_theirs : bits_of bytes ≡ bits_of (bytes_of bits)
  unfolding bits
  bits_are_theirs =
      h.stand.bits_are ∙ ap (λ (more : List ℕ). bits ++ more) (ap (λ (k : ℕ). drop k (bits_of bytes)) h.stand.next_is ∙ fill_bits_are_zeros)
      ∙ sym (bits_back bits (image_is_bits h.plan.value))

  pub bytes_are_image : EachBelow 256 bytes → bytes ≡ image t
  unfolding image bits
  bytes_are_image are_bytes =
      let lines_are = lines_of_their_tree h.plan.value h.stand.fit h.nothing_behind.are_legal in
      same_bytes bytes (bytes_of bits) are_bytes (bytes_are_bytes bits (image_is_bits h.plan.value)) bits_are_theirs
      ∙ ap (λ (xs : List PlanLine). bytes_of (image_bits xs)) (sym lines_are) ∙ ap image h.tree_is
