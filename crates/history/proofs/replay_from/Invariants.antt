-- `history::replay_from` meets its contract: each pass of the loop runs one call more, and demand 3 holds of every list that was run.
-- Assumes nothing.
use Rattle.history.specs.Replay.{RanFirst}
use Rattle.history.proofs.replay_from.Given as goal

abbrev pub invariant-loop-i : goal.invariant-loop-i
invariant-loop-i l = RanFirst l.fn.first l.calls l.initial.answers l.answers l.i l.plan
