-- `history::asked::node_explained` meets its contract. The invariant: no class passed was refused with 12 (`Tested`).
-- Assumes nothing.
use Rattle.tree.specs.Record.{tree_of}
use Rattle.paths.proofs.AllBelow.{Tested}
use Rattle.history.proofs.EachAsked.{passes}
use Rattle.history.proofs.asked.node_explained.Given as goal

abbrev pub invariant-loop-class : goal.invariant-loop-class
invariant-loop-class l = Tested 4095 (passes l.period.0 l.level l.offset (tree_of l.plan)) l.class
