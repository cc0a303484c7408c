-- `asking::first_open` meets its contract. The invariant: no line passed is open (`NoneBelow`).
-- Assumes nothing.
use mathlib.Core.Bool.{not}
use Rattle.tree.specs.Record.{path_at, no_rows}
use Rattle.paths.proofs.NoneBelow.{NoneBelow}
use Rattle.asking.proofs.first_open.Given as goal

abbrev pub invariant-loop-number : goal.invariant-loop-number
invariant-loop-number l = NoneBelow 64 (λ M. not (no_rows (path_at l.rows M))) l.number
