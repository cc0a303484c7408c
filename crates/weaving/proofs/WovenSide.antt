-- The record with the lines of a side (specs/Sides.antt), line by line.
-- Assumes nothing.
use Prim.Native.Nat.{ℕ, ◌+◌, ◌<◌, ◌≤◌}
use native.Mathlib.Numerals.{add-one}
use mathlib.Core.Path.{◌≡◌, ◌∙◌}
use mathlib.Core.Bool.{true, false}
use mathlib.Core.List.{List}
use lib.ListN.{length}
use Rattle.tree.specs.Record.{path_at, no_rows, legal}
use Rattle.tree.specs.Weaving.{doubled_out_of_range, woven_path}
use Rattle.tree.proofs.WovenLegal.{woven_path_at_most_11}
use Rattle.paths.specs.Rules.{Family, set_line, set_lines}
use Rattle.bridge.specs.Rows.{plan_of, tree_of_rows}
use Rattle.bridge.proofs.TreeOfRecord.{tree_of_path, legal_on_record}
use Rattle.weaving.specs.Sides.{with_side}

-- an open line's rows are enough for its woven path
pub woven_path_fits : (rows : List ℕ) → legal rows ≡ true → doubled_out_of_range (tree_of_rows rows) ≡ false → (L : ℕ) → L < 64 → (e : ℕ) → no_rows (path_at rows L) ≡ false →
    length (woven_path e (path_at rows L)) ≤ 11
unfolding tree_of_rows
woven_path_fits rows is_legal in_range L below e there =
    woven_path_at_most_11 (tree_of_rows rows) L e (path_at rows L) (legal_on_record rows) in_range (tree_of_path (plan_of rows) L is_legal below ∙ rw there)

module _ (rows : List ℕ) (family : Family) (e : ℕ) where
  module _ (n : ℕ) {so_far : List ℕ} (same : so_far ≡ with_side rows family e n) where
    pub closed_passed : no_rows (family n) ≡ true → so_far ≡ with_side rows family e (n + 1)
    unfolding set_lines
    closed_passed closed = same ∙ rw (add-one n, closed)

    pub open_woven : no_rows (family n) ≡ false → {new : List ℕ} → new ≡ set_line so_far n (woven_path e (family n)) → new ≡ with_side rows family e (n + 1)
    unfolding set_lines
    open_woven there done = done ∙ rw (add-one n, there, same)
