-- `joining::join_node` meets its contract. The invariant: the lines passed are joined where they go through the node.
-- Assumes nothing.
use mathlib.Core.Path.{◌≡◌}
use Rattle.paths.specs.Rules.{change_lines, join_path}
use Rattle.joining.specs.Common.{through}
use Rattle.joining.proofs.join_node.Given as goal

abbrev pub invariant-loop-number : goal.invariant-loop-number
invariant-loop-number l = l.rows ≡ change_lines l.initial.rows (through l.common l.level) (join_path l.level) l.number
