-- `joining::levels::join_level` meets its contract. The invariant: of whatever path `common` tells the lines, the node at the level was joined so many times (`Joins`).
-- Assumes nothing.
use Prim.Native.Nat.{suc}
use mathlib.Core.List.{List}
use Rattle.tree.specs.declared.Row.{Row}
use Rattle.joining.specs.Levels.{CommonWith}
use Rattle.joining.proofs.JoinedLevels.{Joins}
use Rattle.joining.proofs.levels.join_level.Given as goal

abbrev pub invariant-loop : goal.invariant-loop
invariant-loop l = (ps : List Row) → CommonWith l.initial.rows ps l.common (suc l.level) → Joins l.initial.rows l.rows ps l.common l.level l.counter
