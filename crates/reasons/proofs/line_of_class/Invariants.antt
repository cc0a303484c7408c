-- `reasons::line_of_class` meets its contract. The invariant: no line passed takes an edge of the class (`NoneBelow`).
-- Assumes nothing.
use Rattle.tree.specs.Record.{path_at}
use Rattle.paths.specs.Rules.{takes_class}
use Rattle.paths.proofs.NoneBelow.{NoneBelow}
use Rattle.reasons.proofs.line_of_class.Given as goal

abbrev pub invariant-loop-number : goal.invariant-loop-number
invariant-loop-number l = NoneBelow 64 (takes_class (path_at l.rows) (path_at l.rows l.node.line.number) l.node.level l.d l.class) l.number
