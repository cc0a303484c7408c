-- `bytes::number_at` meets its contract: the field of the word of three bytes is the number of the bits that stand there.
-- Assumes nothing.
use Prim.Native.Nat.{◌-◌, ◌/◌, ◌%◌}
use native.Mathlib.Omega.{arith}
use mathlib.Core.Path.{◌≡◌, refl, ap, ◌∙◌}
use Rattle.bits.specs.Field.{field, joined}
use Rattle.images.proofs.BitsOfBytes.{below_each}
use Rattle.images.proofs.FieldInWord.{word_from, field_in_word}
use Rattle.images.proofs.bytes.number_at.Goals as goal

pub join-upper-requires : goal.join-upper-requires
unfolding joined
join-upper-requires c = grind (arith, c.type_inv.bytes)

pub join-word-requires : goal.join-word-requires
unfolding joined
join-word-requires c = grind (arith, c.type_inv.bytes)

pub returns : goal.returns
unfolding word_from
returns c =
    let word : c.join-word.result ≡ word_from (c.args.at / 8) c.args.bytes.now =
    rw (c.join-word.ensures, c.join-upper.ensures, c.byte_at.ensures, c.byte_at-2.ensures, c.byte_at-3.ensures) refl in
    let are_bytes = below_each 256 c.args.bytes.now (λ i. omega (arith, c.type_inv.bytes i)) in
    c.field_of.ensures ∙ ap (field c.args.width (24 - c.args.at % 8 - c.args.width)) word
    ∙ field_in_word c.args.bytes.now are_bytes c.args.width c.args.at c.requires
