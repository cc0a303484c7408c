-- The record with a line's woven path (crate tree, specs/Weaving.antt), row by row: the root's row put to the cleared line, then the rows of the line's own path.
-- Assumes nothing.
use Prim.Native.Nat.{ℕ, ◌+◌, ◌<◌, ◌≤◌}
use native.Mathlib.Omega.{arith}
use mathlib.Core.Path.{◌≡◌, refl, ◌∙◌}
use mathlib.Core.List.{List, [], ◌∷◌}
use lib.ListN.{length, take}
use lib.Seq.{length-take-le, take_all}
use Rattle.std.proofs.lemmas.List.{take_more}
use Rattle.tree.specs.declared.Row.{Row}
use Rattle.tree.specs.Tree.{row}
use Rattle.paths.specs.Rules.{row_of, set_line}
use Rattle.booking.specs.Writing.{set_row}
use Rattle.booking.proofs.SetLine.{set_line_added}

module _ (start : List ℕ) (size : length start ≡ 1408) (L : ℕ) (below : L < 64) (e : ℕ) where
  -- the root's row, put to the cleared line
  pub root_put : {cleared new : List ℕ} → cleared ≡ set_line start L [] → new ≡ set_row cleared L 0 (row 2 e) → new ≡ set_line start L (row 2 e ∷ [])
  root_put same put = put ∙ rw same (set_line_added start size L below [] 0 refl (omega arith) (row 2 e))

  -- the record has the root's row and the first k rows of a path
  module _ (rs : List Row) {k : ℕ} {so_far : List ℕ} (same : so_far ≡ set_line start L (row 2 e ∷ take k rs)) where
    -- one more is put behind them
    pub row_put : k < length rs → k + 1 < 11 → {r : Row} {new : List ℕ} → row_of k rs ≡ r → new ≡ set_row so_far L (k + 1) r → new ≡ set_line start L (row 2 e ∷ take (k + 1) rs)
    unfolding row_of
    row_put some within read put =
        let first : length (row 2 e ∷ take k rs) ≡ k + 1 = omega (arith, length-take-le k rs (omega arith)) in
        put ∙ rw (same, ← read, take_more rs k (row 0 0) some) (set_line_added start size L below (row 2 e ∷ take k rs) (k + 1) first within (row_of k rs))

    -- none is left
    pub all_put : length rs ≤ k → so_far ≡ set_line start L (row 2 e ∷ rs)
    all_put past = rw (take_all k rs past) at same
