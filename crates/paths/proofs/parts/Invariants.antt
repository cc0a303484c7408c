-- `paths::parts` meets its contract. The invariant: the two paths part exactly where what is left of them does (`Alike`).
-- Assumes nothing.
use Rattle.paths.proofs.PathsPart.{Alike}
use Rattle.paths.proofs.parts.Given as goal

abbrev pub invariant-loop-k : goal.invariant-loop-k
invariant-loop-k l = Alike l.rows l.a.number l.b.number l.k
