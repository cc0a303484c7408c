-- `plan::change::empty` meets its contract: the record of the empty tree has 1,408 zeros.
-- Assumes nothing.
use mathlib.Core.Path.{refl}
use Rattle.plan.proofs.Changes.{empty_rows}
use Rattle.plan.proofs.change.empty.Goals as goal

pub returns : goal.returns
returns c = empty_rows _ refl
