-- The bits of a line's path (crate tree, specs/Image.antt), one row behind the other.
-- Assumes nothing.
use Prim.Native.Nat.{ℕ, ◌+◌, ◌*◌, ◌<◌, ◌≤◌}
use native.Mathlib.Omega.{arith}
use native.Mathlib.Numerals.{add-one}
use mathlib.Core.Path.{◌≡◌, sym, ◌∙◌}
use mathlib.Core.Bool.{true}
use mathlib.Core.List.{List, [], ◌∷◌, ◌++◌}
use lib.ListN.{length, take}
use lib.Seq.{take-suc}
use Rattle.tree.specs.declared.Row.{Row}
use Rattle.tree.specs.Tree.{row}
use Rattle.tree.specs.Record.{row_at, path_at, legal}
use Rattle.tree.specs.Image.{path_bits}
use Rattle.paths.specs.Rules.{row_of}
use Rattle.paths.proofs.PathRows.{row_in_path}
use Rattle.paths.proofs.PathNumbers.{edge_below_weight, weight_small}
use Rattle.images.specs.Added.{Adds}
use Rattle.images.specs.Writing.{Room, BitsWritten}
use Rattle.images.proofs.Adding.{written_none, written_both}
use Rattle.images.proofs.ImageBits.{path_bits_both, path_bits_length}

-- where all the rows have room, so has the next one
pub room_for_row : (rs : List Row) (r : Row) {at k room now : ℕ} → Room at (path_bits rs) room → k < length rs → now ≡ room → Room (at + 24 * k) (path_bits (r ∷ [])) now
room_for_row rs r all below same = omega (arith, path_bits_length rs, path_bits_length (r ∷ []))

-- The first rows of a line's path

pub no_rows_written : (at : ℕ) (a : List ℕ) → BitsWritten at (path_bits []) a a (at + 24 * 0)
unfolding path_bits
no_rows_written at a = let here : at + 24 * 0 ≡ at = omega arith in rw here (written_none at a)

-- r was read as row k
module _ (rows : List ℕ) (L : ℕ) {k : ℕ} (below : k < length (path_at rows L)) {r : Row} (read : r ≡ row_at rows L k) where
  row_is : row_of k (path_at rows L) ≡ r
  row_is = row_in_path rows L below ∙ sym read

  -- in a legal record its numbers fit their fields
  pub row_fits : legal rows ≡ true → L < 64 → (r.weight ≤ 4095) × (r.edge ≤ 4095)
  row_fits is_legal line_below =
      let weight_fits : r.weight ≤ 4095 = rw row_is at (weight_small rows is_legal L line_below below) in
      let edge_below : r.edge < r.weight = rw row_is at (edge_below_weight rows is_legal L line_below below) in
      omega arith

  bits_more : path_bits (take (k + 1) (path_at rows L)) ≡ path_bits (take k (path_at rows L)) ++ path_bits (r ∷ [])
  unfolding row_of
  bits_more = rw (add-one k, take-suc (path_at rows L) k (row 0 0) below, row_is) (path_bits_both (take k (path_at rows L)) (r ∷ []))

  pub row_written : {at : ℕ} {a b c : List ℕ} → BitsWritten at (path_bits (take k (path_at rows L))) a b (at + 24 * k) → Adds (at + 24 * k) (path_bits (r ∷ [])) b c →
      BitsWritten at (path_bits (take (k + 1) (path_at rows L))) a c (at + 24 * (k + 1))
  row_written {at} so_far added =
      let one : BitsWritten (at + 24 * k) (path_bits (r ∷ [])) _ _ (at + 24 * (k + 1)) = record { added = added; next_is = omega (arith, path_bits_length (r ∷ [])) } in
      rw bits_more (written_both so_far one)
