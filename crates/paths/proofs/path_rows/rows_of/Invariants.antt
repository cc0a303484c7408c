-- `paths::path_rows::rows_of` meets its contract. The invariant: the rows passed were copied (`Filled`).
-- Assumes nothing.
use Rattle.tree.specs.Tree.{row}
use Rattle.tree.specs.Record.{row_at}
use Rattle.paths.proofs.Filled.{Filled}
use Rattle.paths.proofs.path_rows.rows_of.Given as goal

abbrev pub invariant-loop-row : goal.invariant-loop-row
invariant-loop-row l = Filled (row 0 0) 11 (row_at l.tree.rows.now l.line.number) l.path l.row
