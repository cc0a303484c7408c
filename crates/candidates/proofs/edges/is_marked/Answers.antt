-- `candidates::edges::is_marked` meets its contract: a shift down and a remainder take the bit out.
-- Assumes nothing.
use borrow.Author.Rules.{rules}
use Rattle.candidates.specs.Edges.{marked}
use Rattle.candidates.proofs.edges.is_marked.Goals as goal

pub returns : goal.returns
unfolding marked
returns c = search rules
