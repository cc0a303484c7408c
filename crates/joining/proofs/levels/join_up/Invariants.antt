-- `joining::levels::join_up` meets its contract. The invariant: the levels below the counted one are left to be joined (`LevelsLeft`).
-- Assumes nothing.
use lib.ListN.{take}
use Rattle.joining.proofs.AllLevels.{LevelsLeft}
use Rattle.joining.proofs.levels.join_up.Given as goal

abbrev pub invariant-loop-level : goal.invariant-loop-level
invariant-loop-level l = LevelsLeft l.initial.rows l.rows (take l.count l.path) l.common l.level
