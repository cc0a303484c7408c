-- `weaving::weave_line` meets its contract. The invariant: the line has the root's row, and behind it the rows passed of its own path.
-- Assumes nothing.
use Prim.Native.Nat.{◌<◌}
use mathlib.Core.Path.{◌≡◌}
use mathlib.Core.List.{◌∷◌}
use lib.ListN.{take}
use Rattle.tree.specs.Tree.{row}
use Rattle.tree.specs.Record.{path_at}
use Rattle.paths.specs.Rules.{set_line}
use Rattle.weaving.proofs.weave_line.Given as goal

abbrev pub invariant-loop-k : goal.invariant-loop-k
invariant-loop-k l = record {
  fits : l.k-end < 11;
  rows_are : l.rows ≡ set_line l.fn.rows l.line.number (row 2 l.side ∷ take l.k (path_at l.tree.rows.now l.line.number));
}
