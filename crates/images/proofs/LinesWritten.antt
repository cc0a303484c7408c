-- The bits of a record's lines (crate tree, specs/Image.antt), one line behind the other.
-- Assumes nothing.
use Prim.Native.Nat.{ℕ, zero, suc, ◌+◌, ◌*◌, ◌<◌, ◌≤◌}
use native.Mathlib.Omega.{arith}
use native.Mathlib.Numerals.{add-one}
use native.Mathlib.Decide.{dec_lt}
use mathlib.Core.Path.{◌≡◌, refl, ap}
use mathlib.Core.Bool.{true}
use mathlib.Core.List.{List, [], ◌∷◌, ◌++◌}
use lib.ListN.{length, length-append}
use Rattle.tree.specs.declared.Row.{Row}
use Rattle.tree.specs.Record.{path_at, no_rows, legal}
use Rattle.tree.specs.Bits.{field_bits}
use Rattle.tree.specs.Image.{PlanLine, lines_below, path_bits, lines_bits}
use Rattle.bridge.specs.Rows.{plan_of, tree_of_rows}
use Rattle.bridge.proofs.Grown.{path_held}
use Rattle.bridge.proofs.TreeOfRecord.{tree_of_path}
use Rattle.images.specs.Writing.{line_if_open, Room, BitsWritten}
use Rattle.images.proofs.Adding.{written_both}
use Rattle.images.proofs.ImageBits.{lines_bits_both, one_line_bits, lines_bits_length}
use Rattle.images.proofs.LinesInTree.{line_with}

-- The bits of one line

pub closed_line : (L : ℕ) (rs : List Row) → length rs ≡ 0 → line_if_open L rs ≡ []
unfolding line_if_open
closed_line L [] none = refl
closed_line L (r ∷ rs) none = absurd (omega arith)

pub open_line : (L : ℕ) (rs : List Row) → (length rs ≡ 0 → ⊥) → line_if_open L rs ≡ record { number = L; path = rs } ∷ []
unfolding line_if_open
open_line L [] some = absurd (some refl)
open_line L (r ∷ rs) some = refl

pub closed_line_bits : (L : ℕ) (rs : List Row) → length rs ≡ 0 → lines_bits (line_if_open L rs) ≡ []
unfolding lines_bits
closed_line_bits L rs none = rw (closed_line L rs none)

pub open_line_bits : (L : ℕ) (rs : List Row) → (length rs ≡ 0 → ⊥) → lines_bits (line_if_open L rs) ≡ field_bits 6 L ++ (field_bits 4 (length rs) ++ path_bits rs)
open_line_bits L rs some = rw (open_line L rs some) (one_line_bits (record { number = L; path = rs }))

pub open_line_length : (L : ℕ) (rs : List Row) → (length rs ≡ 0 → ⊥) → length (lines_bits (line_if_open L rs)) ≡ 10 + 24 * length rs
unfolding lines_bits
open_line_length L rs some = rw (open_line L rs some) (omega (arith, lines_bits_length (record { number = L; path = rs }) []))

-- The lines of a record, one line more

module _ (rows : List ℕ) where
  abbrev pub lines : ℕ → List PlanLine
  lines n = lines_below n (tree_of_rows rows)

  abbrev line : ℕ → List PlanLine
  line n = line_if_open n (path_at rows n)

module _ (rows : List ℕ) (is_legal : legal rows ≡ true) where
  pub lines_with_next : {n : ℕ} → n < 64 → lines rows (n + 1) ≡ lines rows n ++ line rows n
  unfolding lines_below tree_of_rows no_rows line_if_open
  lines_with_next {n} below = rw (add-one n, lines_below, tree_of_path (plan_of rows) n is_legal below) (ap (λ (xs : List PlanLine). lines rows n ++ xs) (held (path_at rows n)))
    where
      held : (rs : List Row) → line_with n (path_held rs) ≡ line_if_open n rs
      held [] = refl
      held (r ∷ rs) = refl

  bits_with_next : {n : ℕ} → n < 64 → lines_bits (lines rows (n + 1)) ≡ lines_bits (lines rows n) ++ lines_bits (line rows n)
  bits_with_next {n} below = rw (lines_with_next below) (lines_bits_both (lines rows n) (line rows n))

  -- How many bits they have

  pub length_with_next : (n : ℕ) → n < 64 → length (lines_bits (lines rows (suc n))) ≡ length (lines_bits (lines rows n)) + length (lines_bits (line rows n))
  length_with_next n below = rw (← add-one n, bits_with_next below) (length-append (lines_bits (lines rows n)) (lines_bits (line rows n)))

  pub length_grows : (n m : ℕ) → n ≤ m → m ≤ 64 → length (lines_bits (lines rows n)) ≤ length (lines_bits (lines rows m))
  length_grows n zero up_to within = let same : n ≡ 0 = omega arith in rw same (omega arith)
  length_grows n (suc m) up_to within =
      elim (dec_lt n (suc m)) [
        | yes below ↦ omega (arith, length_with_next m (omega arith), length_grows n m (omega arith) (omega arith))
        | no past ↦ let same : n ≡ suc m = omega arith in rw same (omega arith)
      ]

  -- the lines below n were written
  module _ {at n next : ℕ} {a b : List ℕ} (below : n < 64) (so_far : BitsWritten at (lines_bits (lines rows n)) a b next) where
    -- where all the lines have room, so has the next one
    pub room_for_line : {room now : ℕ} → Room at (lines_bits (lines rows 64)) room → now ≡ room → Room next (lines_bits (line rows n)) now
    room_for_line all same = omega (arith, length_with_next n below, length_grows (suc n) 64 (omega arith) (omega arith))

    pub line_written : {c : List ℕ} {last : ℕ} → BitsWritten next (lines_bits (line rows n)) b c last → BitsWritten at (lines_bits (lines rows (n + 1))) a c last
    line_written one = rw (bits_with_next below) (written_both so_far one)
