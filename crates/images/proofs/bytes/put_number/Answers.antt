-- `bytes::put_number` meets its contract: the bytes of the word are put one by one, and then the field's bits stand behind those before it.
-- Assumes nothing.
use Prim.Native.Nat.{◌-◌, ◌*◌, ◌/◌, ◌%◌}
use native.Mathlib.Omega.{arith}
use native.Mathlib.Nat.{lt_of_lt_of_le}
use mathlib.Core.Path.{◌≡◌, refl}
use lib.Pow.{pow_pos, pow_mono}
use Rattle.bits.proofs.FieldLaws.{field_below}
use Rattle.tree.specs.Bits.{bytes_for}
use Rattle.images.proofs.FieldPut.{none_put, one_more_put, begun, word_with, front_below, word_below, field_added}
use Rattle.images.proofs.bytes.put_number.Goals as goal

pub join-front-requires : goal.join-front-requires
unfolding begun
join-front-requires c =
    let small = front_below c.args.at c.args.width c.args.number c.args.buffer.now (omega arith) c.requires in
    let fits = lt_of_lt_of_le small (pow_mono {j = 64} (omega (arith, c.requires.at_most_16))) in
    ((omega (arith, c.requires.at_most_16), c.requires.number_fits), rw c.from.ensures fits)

pub join-word-requires : goal.join-word-requires
unfolding begun word_with
join-word-requires c =
    let small = word_below c.args.at c.args.width c.args.number c.args.buffer.now (omega arith) c.requires in
    ((omega arith, pow_pos (24 - c.args.at % 8 - c.args.width)), rw (c.join-front.ensures, c.from.ensures) (omega (arith, small)))

pub loop-k-init : goal.loop-k-init
loop-k-init c = none_put c.join-word.result (c.args.at / 8) c.args.buffer.now

pub overflow_cast-buffer : goal.overflow_cast-buffer
overflow_cast-buffer c = omega (arith, field_below 8 (16 - 8 * c.loop-k.k) c.join-word.result)

pub loop-k-preserved : goal.loop-k-preserved
loop-k-preserved c = one_more_put c.loop-k.invariant (omega (arith, c.requires.has_room)) c.field_of.result c.field_of.ensures

pub returns : goal.returns
unfolding begun word_with bytes_for
returns c =
    let word : c.join-word.result ≡ word_with c.args.at c.args.width c.args.number c.args.buffer.now =
    rw (c.join-word.ensures, c.join-front.ensures, c.from.ensures) refl in
    field_added c.args.at c.args.width c.args.number c.args.buffer.now (omega arith) c.requires c.loop-k.buffer c.loop-k.k (omega arith) c.loop-k.auto.buffer
    (rw word at c.loop-k.invariant)
