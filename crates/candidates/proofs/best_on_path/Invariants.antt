-- `candidates::best_on_path` meets its contract. The invariant: the search has come to the present level, with its step and its offset (`PathSearch`).
-- Assumes nothing.
use Rattle.candidates.specs.Answers.{spot_of}
use Rattle.candidates.proofs.PathSearch.{PathSearch}
use Rattle.candidates.proofs.best_on_path.Given as goal

abbrev pub invariant-loop-level : goal.invariant-loop-level
invariant-loop-level l = PathSearch l.rows l.period.0 l.line.number l.level l.step l.offset (spot_of l.best) l.seen
