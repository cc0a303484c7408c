-- `weaving::weave_side` meets its contract. The invariant: the lines passed were written.
-- Assumes nothing.
use mathlib.Core.Path.{◌≡◌}
use Rattle.tree.specs.Record.{path_at}
use Rattle.weaving.specs.Sides.{with_side}
use Rattle.weaving.proofs.weave_side.Given as goal

abbrev pub invariant-loop-number : goal.invariant-loop-number
invariant-loop-number l = l.rows ≡ with_side l.fn.rows (path_at l.tree.rows.now) l.side l.number
