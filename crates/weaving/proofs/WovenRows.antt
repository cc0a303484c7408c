-- The woven path (crate tree, specs/Weaving.antt) of a path of a legal record, by the weight in its first row.
-- Assumes nothing.
use Prim.Native.Nat.{ℕ, ◌<◌}
use native.Mathlib.Omega.{arith}
use mathlib.Core.Path.{◌≡◌, ap}
use mathlib.Core.Logic.{inl, inr}
use mathlib.Core.Bool.{true}
use mathlib.Core.List.{List, [], ◌∷◌}
use Rattle.tree.specs.declared.Row.{Row}
use Rattle.tree.specs.Tree.{row}
use Rattle.tree.specs.Record.{row_at, path_at, alone, legal}
use Rattle.tree.specs.Weaving.{woven_path}
use Rattle.paths.proofs.LegalLines.{legal_in_range}
use Rattle.paths.proofs.PathRange.{alone_has_weight_1}
use Rattle.paths.proofs.PathRows.{row_in_path, path_goes_on}
use Rattle.paths.proofs.RangeLaws.{alone_or_in_range, weight_at_least_2}

module _ (rows : List ℕ) (is_legal : legal rows ≡ true) (L : ℕ) (below : L < 64) {w : ℕ} (read : w ≡ (row_at rows L 0).weight) where
  alone_by_weight : w ≡ 1 → alone (path_at rows L) ≡ true
  unfolding alone
  alone_by_weight one =
      elim (alone_or_in_range (path_at rows L) (legal_in_range rows is_legal L below)) [
        | inl h ↦ ap alone h
        | inr h ↦
            let some = path_goes_on rows L {k = 0} (omega arith) (omega arith) read (λ none. omega arith) in
            absurd (omega (arith, weight_at_least_2 (path_at rows L) h 0 some, ap (λ (r : Row). r.weight) (row_in_path rows L some)))
      ]

  pub woven_alone : (e : ℕ) → w ≡ 1 → woven_path e (path_at rows L) ≡ row 2 e ∷ []
  unfolding woven_path
  woven_alone e one = rw (alone_by_weight one)

  pub woven_other : (e : ℕ) → (w ≡ 1 → ⊥) → woven_path e (path_at rows L) ≡ row 2 e ∷ path_at rows L
  unfolding woven_path
  woven_other e other = rw (alone_has_weight_1 rows L read other)
