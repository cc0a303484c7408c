-- The bits of paths and lines (crate tree, specs/Image.antt): one part behind the other, how many they are, and that they are bits.
-- Assumes nothing.
use Prim.Native.Nat.{◌+◌, ◌*◌}
use native.Mathlib.Omega.{arith}
use mathlib.Core.Path.{◌≡◌, refl}
use mathlib.Core.List.{List, [], ◌∷◌, ◌++◌, append-nil, append_assoc}
use lib.ListN.{length, length-append}
use Rattle.tree.specs.declared.Row.{Row}
use Rattle.tree.specs.Bits.{field_bits}
use Rattle.tree.specs.Image.{PlanLine, path_bits, lines_bits, image_bits}
use Rattle.images.proofs.NumberAt.{field_length}
use Rattle.images.proofs.BitsOfBytes.{EachBelow, both_below, field_is_bits}

-- A path

pub path_bits_both : (rs qs : List Row) → path_bits (rs ++ qs) ≡ path_bits rs ++ path_bits qs
unfolding path_bits
path_bits_both [] qs = refl
path_bits_both (r ∷ rs) qs = rw (path_bits_both rs qs) (simp append_assoc)

pub one_row_bits : (r : Row) → path_bits (r ∷ []) ≡ field_bits 12 r.weight ++ field_bits 12 r.edge
unfolding path_bits
one_row_bits r = simp append-nil

pub path_bits_length : (rs : List Row) → length (path_bits rs) ≡ 24 * length rs
unfolding path_bits
path_bits_length [] = refl
path_bits_length (r ∷ rs) = simp (length-append, field_length) (omega (arith, path_bits_length rs))

path_is_bits : (rs : List Row) → EachBelow 2 (path_bits rs)
unfolding path_bits EachBelow
path_is_bits [] = tt
path_is_bits (r ∷ rs) =
    both_below 2 (field_bits 12 r.weight) _ (field_is_bits 12 r.weight)
    (both_below 2 (field_bits 12 r.edge) (path_bits rs) (field_is_bits 12 r.edge) (path_is_bits rs))

-- Lines

pub lines_bits_both : (xs ys : List PlanLine) → lines_bits (xs ++ ys) ≡ lines_bits xs ++ lines_bits ys
unfolding lines_bits
lines_bits_both [] ys = refl
lines_bits_both (x ∷ xs) ys = rw (lines_bits_both xs ys) (simp append_assoc)

pub one_line_bits : (x : PlanLine) → lines_bits (x ∷ []) ≡ field_bits 6 x.number ++ (field_bits 4 (length x.path) ++ path_bits x.path)
unfolding lines_bits
one_line_bits x = simp append-nil

pub lines_bits_length : (x : PlanLine) (xs : List PlanLine) → length (lines_bits (x ∷ xs)) ≡ 10 + 24 * length x.path + length (lines_bits xs)
unfolding lines_bits
lines_bits_length x xs = simp (length-append, field_length, path_bits_length) (omega arith)

lines_are_bits : (xs : List PlanLine) → EachBelow 2 (lines_bits xs)
unfolding lines_bits EachBelow
lines_are_bits [] = tt
lines_are_bits (x ∷ xs) =
    both_below 2 (field_bits 6 x.number) _ (field_is_bits 6 x.number)
    (both_below 2 (field_bits 4 (length x.path)) _ (field_is_bits 4 (length x.path))
    (both_below 2 (path_bits x.path) (lines_bits xs) (path_is_bits x.path) (lines_are_bits xs)))

-- The image

pub image_bits_length : (xs : List PlanLine) → length (image_bits xs) ≡ 7 + length (lines_bits xs)
unfolding image_bits
image_bits_length xs = simp (length-append, field_length)

pub image_is_bits : (xs : List PlanLine) → EachBelow 2 (image_bits xs)
unfolding image_bits
image_is_bits xs = both_below 2 (field_bits 7 (length xs)) (lines_bits xs) (field_is_bits 7 (length xs)) (lines_are_bits xs)
