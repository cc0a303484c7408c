-- `weaving::doubled_out_of_range` meets its contract. The invariant: no doubled period of a line passed is above 4,095.
-- Assumes nothing.
use Prim.Native.Nat.{◌*◌}
use lib.Dec.{ltb}
use mathlib.Core.Bool.{◌&&◌}
use Rattle.tree.specs.Tree.{is_open, period_of}
use Rattle.bridge.specs.Rows.{tree_of_rows}
use Rattle.paths.proofs.NoneBelow.{NoneBelow}
use Rattle.weaving.proofs.doubled_out_of_range.Given as goal

abbrev pub invariant-loop-number : goal.invariant-loop-number
invariant-loop-number l = NoneBelow 64 (λ L. is_open L (tree_of_rows l.tree.rows.now) && ltb 4095 (2 * period_of L (tree_of_rows l.tree.rows.now))) l.number
