-- `plan::lookup::lookup` meets its contract: the record is a tree, or it is none and nothing is found.
-- Assumes nothing.
use Rattle.paths.specs.Checked.{CheckedRecord}
use Rattle.plan.specs.Lookup.{line_found}
use Rattle.plan.proofs.lookup.lookup.Goals as goal

pub returns-in_err-tree_record : goal.returns-in_err-tree_record
unfolding line_found CheckedRecord
returns-in_err-tree_record c = rw (c.from_residual.ensures, c.in_err-tree_record.ensures)

pub returns : goal.returns
unfolding line_found CheckedRecord
returns c =
    let is_legal = rw c.in_ok-tree_record.ensures at c.in_ok-tree_record.field-0.is_legal in
    rw is_legal c.find.ensures
