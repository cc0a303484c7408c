-- `joining::common::common_of_lines` meets its contract. The invariant: the numbers of the lines passed are listed, the others are 0 (`ListedTo`).
-- Assumes nothing.
use lib.ListN.{take}
use Rattle.joining.proofs.CommonNumbers.{ListedTo}
use Rattle.joining.proofs.common.common_of_lines.Given as goal

abbrev pub invariant-loop-number : goal.invariant-loop-number
invariant-loop-number l = ListedTo l.rows (take l.count l.path) l.common l.number
