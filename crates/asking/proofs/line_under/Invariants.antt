-- `asking::line_under` meets its contract. The invariant: no line passed takes the edge (`NoneBelow`).
-- Assumes nothing.
use Rattle.tree.specs.Record.{path_at}
use Rattle.paths.proofs.NoneBelow.{NoneBelow}
use Rattle.asking.specs.Answers.{takes_edge}
use Rattle.asking.proofs.line_under.Given as goal

abbrev pub invariant-loop-number : goal.invariant-loop-number
invariant-loop-number l = NoneBelow 64 (takes_edge (path_at l.rows) (path_at l.rows l.line.number) l.level l.edge) l.number
