-- A node that is split where the divisor is below its weight.
-- Assumes nothing.
use Prim.Native.Nat.{ℕ, ◌<◌, ◌≤◌}
use mathlib.Core.Path.{◌≡◌}
use mathlib.Core.List.{List}
use lib.ListN.{length}
use borrow.Author.Tests.{lt-ltb, le-ltb}
use Rattle.tree.specs.Record.{row_at, path_at}
use Rattle.paths.specs.Rules.{row_of, split_lines}
use Rattle.paths.proofs.PathRows.{weight_read}
use Rattle.lines.specs.Bookable.{split_if_smaller}

module _ (rows : List ℕ) (L l d w : ℕ) (below : l < length (path_at rows L)) (read : w ≡ (row_at rows L l).weight) where
  pub smaller_than_weight : d < w → d < (row_of l (path_at rows L)).weight
  smaller_than_weight small = rw (weight_read rows L below read) small

  pub split_smaller : d < w → split_if_smaller rows L l d ≡ split_lines rows (path_at rows L) l d 64
  unfolding split_if_smaller
  split_smaller small = rw (lt-ltb d (row_of l (path_at rows L)).weight (smaller_than_weight small))

  pub split_not_smaller : w ≤ d → split_if_smaller rows L l d ≡ rows
  unfolding split_if_smaller
  split_not_smaller large = rw (weight_read rows L below read, le-ltb d w large)
