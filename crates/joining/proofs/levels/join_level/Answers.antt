use native.Mathlib.Omega.{arith}
use mathlib.Core.Path.{sym, ◌∙◌}
use Rattle.joining.proofs.JoinedLevels.{joined_not_yet, rest_is_unused, joinable, joined_once_more, joined_to_the_last, joined_10_times}
use Rattle.joining.proofs.levels.join_level.Goals as goal

pub loop-init : goal.loop-init
loop-init c ps h = joined_not_yet _ ps _ _ c.told-rows h

pub weight_below-requires-clause-rest : goal.weight_below-requires-clause-rest
weight_below-requires-clause-rest c =
    let path = c.requires.common in
    rest_is_unused _ _ path.0 _ _ _ (c.loop.invariant path.0 path.1)

pub returns-in_default : goal.returns-in_default
returns-in_default c ps h =
    joined_to_the_last _ _ ps _ _ _ (c.loop.invariant ps h) (omega (arith, c.loop.auto.counter-end)) (sym c.weight_below.ensures ∙ c.in_default.is)

pub join_node-requires : goal.join_node-requires
join_node-requires c =
    let path = c.requires.common in
    joinable _ _ path.0 _ _ _ (c.loop.invariant path.0 path.1) _ (sym c.weight_below.ensures ∙ c.in-Some.is)

pub loop-preserved : goal.loop-preserved
loop-preserved c ps h =
    rw c.join_node.ensures (joined_once_more _ _ ps _ _ _ (c.loop.invariant ps h) _ (sym c.weight_below.ensures ∙ c.in-Some.is))

pub returns : goal.returns
returns c ps h = joined_10_times _ _ ps _ _ _ (c.loop.invariant ps h) (omega arith)
