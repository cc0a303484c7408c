-- The record with a line placed: another line's rows copied to the cleared line one after the other, and a row or two written after them.
-- Assumes nothing.
use Prim.Native.Nat.{ℕ, ◌+◌, ◌<◌, ◌≤◌}
use native.Mathlib.Omega.{arith}
use mathlib.Core.Path.{◌≡◌, sym}
use mathlib.Core.List.{List, [], ◌∷◌, ◌++◌, append_assoc}
use lib.ListN.{length, take, length-append}
use lib.Seq.{length-take-le}
use borrow.Author.Tests.{eq-eqb, ne_eqb}
use Rattle.std.proofs.lemmas.List.{take_more}
use Rattle.tree.specs.declared.Row.{Row}
use Rattle.tree.specs.Tree.{row}
use Rattle.tree.specs.Record.{row_at, path_at}
use Rattle.paths.specs.Rules.{row_of, set_line, booked_path}
use Rattle.paths.proofs.PathRows.{row_in_path}
use Rattle.booking.specs.Writing.{set_row, Placeable}
use Rattle.booking.proofs.SetLine.{set_line_other, set_line_added}

module _ (above : List Row) (d i q : ℕ) where
  -- q is 1
  booked_without : q ≡ 1 → booked_path above d i q ≡ above ++ (row d i ∷ [])
  unfolding booked_path
  booked_without one = rw (eq-eqb q 1 one)

  -- the line has a node of weight q to itself
  booked_with : (q ≡ 1 → ⊥) → booked_path above d i q ≡ (above ++ (row d i ∷ [])) ++ (row q 0 ∷ [])
  unfolding booked_path
  booked_with other = rw (ne_eqb q 1 other) (sym (append_assoc above (row d i ∷ []) (row q 0 ∷ [])))

  booked_length : length above < length (booked_path above d i q)
  unfolding booked_path
  booked_length = simp length-append (omega arith)

module _ {start : List ℕ} {L M l d i q : ℕ} (placeable : Placeable start L M l d i q) where
  abbrev way : ℕ → List Row
  way k = take k (path_at start M)

  way_length : (k : ℕ) → k ≤ l → length (way k) ≡ k
  way_length k within = length-take-le k (path_at start M) (omega (arith, placeable.on_path))

  pub level_fits : l < 11
  level_fits = omega (arith, placeable.rows_left, booked_length (way l) d i q, way_length l)

  pub next_level_fits : (q ≡ 1 → ⊥) → l + 1 < 11
  next_level_fits other = omega (arith, way_length l, simp length-append at (rw (booked_with (way l) d i q other) at placeable.rows_left))

  module _ (size : length start ≡ 1408) (below : L < 64) {rows : List ℕ} where
    -- line L has the way's first k rows, and one more is copied to it
    pub way_copied : {k : ℕ} {r : Row} {new : List ℕ} → k < l → rows ≡ set_line start L (way k) → r ≡ row_at rows M k → new ≡ set_row rows L k r → new ≡ set_line start L (way (k + 1))
    unfolding row_of
    way_copied {k} above same read put =
        let kept = set_line_other start size L below (way k) M k placeable.another_line (omega (arith, level_fits)) in
        let here = row_in_path start M {k = k} (omega (arith, placeable.on_path)) in
        rw (put, read, same, kept, ← here, take_more (path_at start M) k (row 0 0) (omega (arith, placeable.on_path)))
        (set_line_added start size L below (way k) k (way_length k (omega arith)) (omega (arith, level_fits)) _)

    -- the loop has come to the level
    module _ {k : ℕ} (within : k ≤ l) (past : l ≤ k) (same : rows ≡ set_line start L (way k)) where
      level_put : set_row rows L l (row d i) ≡ set_line start L (way l ++ (row d i ∷ []))
      level_put =
          let at_level : k ≡ l = omega arith in
          rw (same, at_level) (set_line_added start size L below (way l) l (way_length l (omega arith)) level_fits (row d i))

      pub placed_without : q ≡ 1 → set_row rows L l (row d i) ≡ set_line start L (booked_path (way l) d i q)
      placed_without one = rw (booked_without (way l) d i q one) level_put

      pub placed_with : (q ≡ 1 → ⊥) → set_row (set_row rows L l (row d i)) L (l + 1) (row q 0) ≡ set_line start L (booked_path (way l) d i q)
      placed_with other =
          let longer : length (way l ++ (row d i ∷ [])) ≡ l + 1 = simp length-append (omega (arith, way_length l)) in
          rw (level_put, booked_with (way l) d i q other) (set_line_added start size L below (way l ++ (row d i ∷ [])) (l + 1) longer (next_level_fits other) (row q 0))
