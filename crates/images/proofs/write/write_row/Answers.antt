-- `images::write::write_row` meets its contract: the field of the weight and then that of the edge. Both numbers fit either field, so that a version that
-- writes the other one is refused for its answer.
-- Assumes nothing.
use Prim.Native.Nat.{◌+◌}
use native.Mathlib.Omega.{arith}
use mathlib.Core.Path.{refl}
use mathlib.Core.List.{[], ◌∷◌}
use Rattle.images.proofs.Adding.{written_both, written_field}
use Rattle.images.proofs.ImageBits.{path_bits_length, one_row_bits}
use Rattle.images.proofs.write.write_row.Goals as goal

pub put_number-requires : goal.put_number-requires
put_number-requires c = omega (arith, path_bits_length (c.args.row ∷ []))

pub put_number-requires-2 : goal.put_number-requires-2
put_number-requires-2 c = omega (arith, path_bits_length (c.args.row ∷ []))

pub returns : goal.returns
returns c =
    let weight = written_field c.args.at 12 c.from.result (c.args.at + 12) c.put_number.ensures refl in
    let edge = written_field (c.args.at + 12) 12 c.from-2.result (c.args.at + 12 + 12) c.put_number-2.ensures refl in
    rw (one_row_bits c.args.row, ← c.from.ensures, ← c.from-2.ensures) (written_both weight edge).added
