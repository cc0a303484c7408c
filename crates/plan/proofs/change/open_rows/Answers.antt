-- `plan::change::open_rows` meets its contract: the record is a tree, or it is none and the line is opened in the empty plan.
-- Assumes nothing.
use mathlib.Core.Path.{sym, ◌∙◌}
use Rattle.plan.proofs.change.open_rows.Goals as goal

pub open_line-requires : goal.open_line-requires
open_line-requires c = sym c.legal.ensures ∙ c.if-legal.true

pub returns-then-legal : goal.returns-then-legal
returns-then-legal c = c.open_line.ensures

pub open_in_empty-requires : goal.open_in_empty-requires
open_in_empty-requires c = sym c.legal.ensures ∙ c.if-legal.false

pub returns : goal.returns
returns c = c.open_in_empty.ensures
