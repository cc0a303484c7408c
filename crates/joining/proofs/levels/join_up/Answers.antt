use native.Mathlib.Omega.{arith}
use mathlib.Core.Path.{◌≡◌}
use lib.Seq.{length-take-le}
use Rattle.joining.proofs.AllLevels.{all_levels_left, next_level, one_level_less, no_level_left}
use Rattle.joining.proofs.levels.join_up.Goals as goal

pub loop-level-init : goal.loop-level-init
loop-level-init c =
    let short = length-take-le c.args.count c.args.path.now (omega (arith, c.requires.count, c.told-path)) in
    rw c.min-level.ensures (all_levels_left _ _ c.requires.tree c.common_of_lines-common.ensures c.deepest.ensures.none_larger c.told-rows (omega (arith, short, c.requires.count)))

pub join_level-requires-clause-common : goal.join_level-requires-clause-common
join_level-requires-clause-common c = (_, (next_level c.loop-level.invariant (omega arith)).common_with)

pub loop-level-preserved : goal.loop-level-preserved
loop-level-preserved c =
    let before = next_level c.loop-level.invariant (omega arith) in
    one_level_less _ _ _ _ _ _ c.join_level.array_long before (c.join_level.ensures _ before.common_with)

pub returns : goal.returns
returns c =
    let none : c.loop-level.level ≡ 0 = omega arith in
    no_level_left _ _ _ _ (rw none at c.loop-level.invariant)
