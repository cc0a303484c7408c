-- `candidates::gcd` meets its contract. The invariant: the two numbers have the divisor that is sought. The measure is the second of them.
-- Assumes nothing.
use mathlib.Core.Path.{◌≡◌}
use Rattle.tree.specs.Numbers as numbers
use Rattle.candidates.proofs.gcd.Given as goal

abbrev pub invariant-loop-smaller : goal.invariant-loop-smaller
invariant-loop-smaller l = numbers.gcd l.a l.b ≡ numbers.gcd l.larger l.smaller

abbrev pub decreases-loop-smaller : goal.decreases-loop-smaller
decreases-loop-smaller l = l.smaller
