-- `history::asked::each_has_reason` meets its contract. The invariant: on no level passed a class was refused with 12 (`Tested`).
-- Assumes nothing.
use Rattle.tree.specs.Record.{tree_of}
use Rattle.paths.proofs.AllBelow.{Tested}
use Rattle.history.specs.Asked.{none_refused_at_level}
use Rattle.history.proofs.asked.each_has_reason.Given as goal

abbrev pub invariant-loop-level : goal.invariant-loop-level
invariant-loop-level l = Tested 11 (λ k. none_refused_at_level l.period.0 k (tree_of l.plan)) l.level
