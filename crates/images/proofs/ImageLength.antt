-- How long an image is at most: 64 lines with paths of 11 rows have 2,193 bytes (document 02, Ask 9).
-- Assumes nothing.
use Prim.Native.Nat.{◌*◌, ◌≤◌}
use native.Mathlib.Omega.{arith}
use mathlib.Core.List.{List, [], ◌∷◌}
use Rattle.std.proofs.lemmas.List.Elements.{All-head, All-tail}
use lib.ListN.{length}
use Rattle.tree.specs.Tree.{Tree}
use Rattle.tree.specs.Shape.{Legal}
use Rattle.tree.specs.Bits.{bytes_for}
use Rattle.tree.specs.Image.{PlanLine, lines_below, lines_bits, image_bits, image}
use Rattle.images.specs.Parts.{most_line_bits, most_bits}
use Rattle.images.proofs.BitsOfBytes.{bytes_length}
use Rattle.images.proofs.LineFits.{LineFits, AllFit}
use Rattle.images.proofs.LinesOfTree.{lines_at_most, lines_fit}
use Rattle.images.proofs.ImageBits.{lines_bits_length, image_bits_length}

lines_bits_at_most : (xs : List PlanLine) → AllFit xs → length (lines_bits xs) ≤ most_line_bits * length xs
unfolding lines_bits
lines_bits_at_most [] fit = omega arith
lines_bits_at_most (x ∷ xs) fit = omega (arith, lines_bits_length x xs, (All-head LineFits x xs fit).at_most_11, lines_bits_at_most xs (All-tail LineFits x xs fit))

pub image_bits_at_most : (t : Tree) → Legal t → length (image_bits (lines_below 64 t)) ≤ most_bits
image_bits_at_most t is_legal =
    let xs = lines_below 64 t in
    omega (arith, image_bits_length xs, lines_bits_at_most xs (lines_fit t is_legal), lines_at_most t 64)

pub image_length_at_most : (t : Tree) → Legal t → length (image t) ≤ 2193
unfolding image bytes_for
image_length_at_most t is_legal = omega (arith, bytes_length (image_bits (lines_below 64 t)), image_bits_at_most t is_legal)
