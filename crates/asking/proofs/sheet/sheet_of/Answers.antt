-- `asking::sheet::sheet_of` meets its contract, by those of its two parts.
-- Assumes nothing.
use Rattle.tree.specs.Sheet.{sheet}
use Rattle.asking.proofs.sheet.sheet_of.Goals as goal

pub returns : goal.returns
unfolding sheet
returns c = cc (c.turns_of_lines-turns.ensures, c.idle_rounds-idle.ensures)
