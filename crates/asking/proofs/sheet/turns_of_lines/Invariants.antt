-- `asking::sheet::turns_of_lines` meets its contract. The invariant: the turns of the lines passed are listed (`Filled`).
-- Assumes nothing.
use Rattle.tree.specs.Sheet.{line_turns}
use Rattle.bridge.specs.Rows.{tree_of_rows}
use Rattle.paths.proofs.Filled.{Filled}
use Rattle.asking.proofs.sheet.turns_of_lines.Given as goal

abbrev pub invariant-loop-number : goal.invariant-loop-number
invariant-loop-number l = Filled 0 64 (λ L. line_turns L l.first l.rounds (tree_of_rows l.tree.rows.now)) l.turns l.number
