-- `weaving::open_in_both` meets its contract. The invariant: no line passed is open in both.
-- Assumes nothing.
use mathlib.Core.Bool.{◌&&◌}
use Rattle.tree.specs.Tree.{is_open}
use Rattle.bridge.specs.Rows.{tree_of_rows}
use Rattle.paths.proofs.NoneBelow.{NoneBelow}
use Rattle.weaving.proofs.open_in_both.Given as goal

abbrev pub invariant-loop-number : goal.invariant-loop-number
invariant-loop-number l = NoneBelow 64 (λ L. is_open L (tree_of_rows l.a.rows.now) && is_open L (tree_of_rows l.b.rows.now)) l.number
