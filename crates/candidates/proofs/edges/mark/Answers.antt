-- `candidates::edges::mark` meets its contract: the bit that is shifted into place is the power of two that the or takes.
-- Assumes nothing.
use Rattle.candidates.proofs.Marks.{shifted_mark}
use Rattle.candidates.proofs.edges.mark.Goals as goal

pub returns : goal.returns
returns c = shifted_mark _ _
