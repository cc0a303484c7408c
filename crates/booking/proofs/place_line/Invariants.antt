-- `booking::place_line` meets its contract. The invariant: the line has the rows of the way so far, and the level is one of its 11.
-- Assumes nothing.
use Prim.Native.Nat.{◌<◌}
use mathlib.Core.Path.{◌≡◌}
use lib.ListN.{take}
use Rattle.tree.specs.Record.{path_at}
use Rattle.paths.specs.Rules.{set_line}
use Rattle.booking.proofs.place_line.Given as goal

abbrev pub invariant-loop-k : goal.invariant-loop-k
invariant-loop-k l = record {
  level_fits : l.level < 11;
  way : l.rows ≡ set_line l.fn.rows l.line.number (take l.k (path_at l.fn.rows l.fn.from.number));
}
