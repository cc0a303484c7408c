-- `images::read::read_field` meets its contract: the checks strike in the sequence of their laws (FieldsInOrder, PartsRead). Bytes are missing exactly where bits are.
-- Assumes nothing.
use native.Mathlib.Omega.{arith}
use Prim.Native.Nat.{◌+◌, ◌≤◌}
use mathlib.Core.Path.{sym}
use lib.ListN.{length}
use Rattle.tree.specs.Answered.{outcome_of, number_of}
use Rattle.tree.specs.Bits.{bits_of}
use Rattle.images.specs.Parts.{part_told}
use Rattle.images.proofs.BitsOfBytes.{bits_length}
use Rattle.images.proofs.PartsRead.{field_gives, field_refused_13}
use Rattle.images.proofs.FieldsInOrder.{field_below_least, field_above_most}
use Rattle.images.proofs.read.read_field.Goals as goal

pub returns-then-bytes-div_ceil : goal.returns-then-bytes-div_ceil
unfolding outcome_of number_of
returns-then-bytes-div_ceil c = sym (field_refused_13 _ _ _ _ _ (omega (arith, bits_length c.args.bytes.now)))

pub returns-then-value-least : goal.returns-then-value-least
unfolding outcome_of number_of
returns-then-value-least c =
    sym (field_below_least _ _ _ _ _ (omega (arith, bits_length c.args.bytes.now)) (rw c.number_at-value.ensures at c.if-value-least.true))

pub returns-then-most-value : goal.returns-then-most-value
unfolding outcome_of number_of
returns-then-most-value c =
    sym (field_above_most _ _ _ _ _ (omega (arith, bits_length c.args.bytes.now)) (rw c.number_at-value.ensures at c.if-most-value.true))

pub returns : goal.returns
unfolding outcome_of part_told
returns c =
    let inside : c.args.at + c.args.width ≤ length (bits_of c.args.bytes.now) = omega (arith, bits_length c.args.bytes.now) in
    rw c.number_at-value.ensures
    (sym
    (field_gives _ _ _ _ _ inside (rw c.number_at-value.ensures at c.if-value-least.false) (rw c.number_at-value.ensures at c.if-most-value.false)))
