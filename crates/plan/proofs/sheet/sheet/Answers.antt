-- `plan::sheet::sheet` meets its contract: the record is no tree, and every round is idle, or it is one and its sheet is counted.
-- Assumes nothing.
use mathlib.Core.Path.{sym}
use Rattle.paths.specs.Checked.{CheckedRecord}
use Rattle.plan.proofs.AskingLaws.{sheet_on_illegal}
use Rattle.plan.proofs.sheet.sheet.Goals as goal

pub returns-in_default : goal.returns-in_default
unfolding CheckedRecord
returns-in_default g c = rw (sym c.rows.ensures) (sym (sheet_on_illegal _ c.in_default.ensures _ _))

pub returns : goal.returns
unfolding CheckedRecord
returns g c = rw (sym c.rows.ensures, sym c.in-Some.ensures) c.sheet_of.ensures
