-- `paths::tree_record::tree_record` meets its contract: `legal` decides.
-- Assumes nothing.
use mathlib.Core.Path.{refl, sym, ◌∙◌}
use Rattle.paths.specs.Checked.{CheckedRecord}
use Rattle.paths.proofs.tree_record.tree_record.Goals as goal

pub returns-then-not-legal : goal.returns-then-not-legal
unfolding CheckedRecord
returns-then-not-legal c = sym c.legal.ensures ∙ c.if-not-legal.true

pub returns : goal.returns
unfolding CheckedRecord
returns c = refl
