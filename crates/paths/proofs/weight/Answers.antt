-- `paths::weight` meets its contract: it reads the number where the record has it.
-- Assumes nothing.
use borrow.Author.Rules.{rules}
use Rattle.tree.specs.Record.{row_at}
use Rattle.paths.proofs.weight.Goals as goal

pub returns : goal.returns
unfolding row_at
returns c = search rules
