-- `history::asked::level_explained` meets its contract. The invariant: at no offset passed a class was refused with 12 (`Tested`).
-- Assumes nothing.
use Rattle.tree.specs.Record.{tree_of}
use Rattle.paths.proofs.AllBelow.{Tested}
use Rattle.history.specs.Asked.{none_refused_at_node}
use Rattle.history.proofs.asked.level_explained.Given as goal

abbrev pub invariant-loop-offset : goal.invariant-loop-offset
invariant-loop-offset l = Tested 4095 (λ r. none_refused_at_node l.period.0 l.level r (tree_of l.plan)) l.offset
