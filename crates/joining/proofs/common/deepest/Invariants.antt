-- `joining::common::deepest` meets its contract. The invariant: the largest of the numbers of the lines passed (`LargestTo`).
-- Assumes nothing.
use Rattle.joining.proofs.CommonNumbers.{LargestTo}
use Rattle.joining.proofs.common.deepest.Given as goal

abbrev pub invariant-loop-number : goal.invariant-loop-number
invariant-loop-number l = LargestTo l.common l.most l.number
