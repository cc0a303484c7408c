-- The doubled period of a line in a legal record and in its tree: whether it is in range.
-- Assumes nothing.
use Prim.Native.Nat.{ℕ, ◌*◌, ◌<◌, ◌≤◌}
use mathlib.Core.Path.{◌≡◌, sym, ap}
use mathlib.Core.Bool.{true, false}
use mathlib.Core.List.{List}
use lib.Dec.{ltb}
use borrow.Author.Tests.{lt-ltb, le-ltb}
use Rattle.tree.specs.Tree.{product, period_of}
use Rattle.tree.specs.Record.{path_at, legal}
use Rattle.bridge.specs.Rows.{tree_of_rows}
use Rattle.bridge.proofs.TreeOfRecord.{paths_on_record}

module _ (rows : List ℕ) (is_legal : legal rows ≡ true) (L : ℕ) (below : L < 64) where
  pub period_on_record : period_of L (tree_of_rows rows) ≡ product (path_at rows L)
  unfolding period_of
  period_on_record = ap product (sym (paths_on_record rows is_legal L below))

  -- p was read as the period
  module _ {p : ℕ} (read : p ≡ product (path_at rows L)) where
    pub doubled_passes : 4095 < 2 * p → ltb 4095 (2 * period_of L (tree_of_rows rows)) ≡ true
    doubled_passes above = rw (period_on_record, ← read) (lt-ltb _ _ above)

    pub doubled_in_range : 2 * p ≤ 4095 → ltb 4095 (2 * period_of L (tree_of_rows rows)) ≡ false
    doubled_in_range within = rw (period_on_record, ← read) (le-ltb _ _ within)
