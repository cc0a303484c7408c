-- `history::replay` meets its contract: what `replay_from` ensures, from the empty plan.
-- Assumes nothing.
use Rattle.tree.specs.Demand3.{Demand3}
use Rattle.plan.proofs.Changes.{empty_tree}
use Rattle.history.proofs.replay.Goals as goal

pub returns : goal.returns
unfolding Demand3
returns c =
    let ran = rw c.empty.ensures at c.replay_from.ensures in
    record { count_is = ran.count_is; first = ran.first; demand_3 = rw empty_tree at ran.claims.demand_3 }
