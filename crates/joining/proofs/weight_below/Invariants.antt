-- `joining::weight_below` meets its contract. The invariant: the one weight of the lines passed that go through the node (`WeightSoFar`).
-- Assumes nothing.
use Rattle.joining.proofs.WeightBelow.{WeightSoFar}
use Rattle.joining.proofs.weight_below.Given as goal

abbrev pub invariant-loop-number : goal.invariant-loop-number
invariant-loop-number l = WeightSoFar l.rows l.common l.level l.v l.number
