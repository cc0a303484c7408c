-- `candidates::best_candidate` meets its contract. The invariant: the lines passed were searched.
-- Assumes nothing.
use Rattle.tree.specs.Record.{path_at}
use Rattle.candidates.specs.Answers.{spot_of}
use Rattle.candidates.specs.SearchedTo.{SearchedTo}
use Rattle.candidates.proofs.best_candidate.Given as goal

abbrev pub invariant-loop-number : goal.invariant-loop-number
invariant-loop-number l = SearchedTo (path_at l.lines.record.rows.now) l.period.0 l.number 0 (spot_of l.best) l.seen
