use mathlib.Core.Path.{◌∙◌}
use Rattle.asking.proofs.NearestTurn.{nearest_of_none, nearest_of_one_more, rest_found}
use Rattle.asking.proofs.rest.rest_of.Goals as goal

pub loop-number-init : goal.loop-number-init
loop-number-init c = nearest_of_none _ _

pub loop-number-preserved : goal.loop-number-preserved
loop-number-preserved c = nearest_of_one_more c.loop-number-test.true c.loop-number.invariant c.nearer_turn-least.ensures

pub returns : goal.returns
returns c = c.unwrap_or.ensures ∙ rest_found _ c.args.tree.is_legal _ c.loop-number.invariant c.loop-number-test.false
