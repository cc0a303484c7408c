-- The measure of `asking::walk` is how many nodes are left.
-- Assumes nothing.
use Rattle.asking.proofs.+walk.Given as goal

abbrev pub decreases-walk : goal.decreases-walk
decreases-walk l = l.left
