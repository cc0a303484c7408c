-- `booking::split_node` meets its contract. The invariant: the lines passed are split where they go through the node.
-- Assumes nothing.
use mathlib.Core.Path.{◌≡◌}
use Rattle.tree.specs.Record.{path_at}
use Rattle.paths.specs.Rules.{split_lines}
use Rattle.booking.proofs.split_node.Given as goal

abbrev pub invariant-loop-number : goal.invariant-loop-number
invariant-loop-number l = l.rows ≡ split_lines l.initial.rows (path_at l.initial.rows l.line.number) l.level l.d l.number
