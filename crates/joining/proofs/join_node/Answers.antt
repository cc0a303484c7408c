use mathlib.Core.Path.{refl, ◌∙◌}
use Rattle.paths.specs.Rules.{set_lines}
use Rattle.joining.proofs.LinesThrough.{is_through, not_through}
use Rattle.joining.proofs.JoinNode.{still_joinable, line_joined, line_passed}
use Rattle.joining.proofs.join_node.Goals as goal
use Rattle.joining.proofs.join_node.Goals.{then-level-common, else-level-common}

pub loop-number-init : goal.loop-number-init
unfolding set_lines
loop-number-init c = refl

pub join_line-requires : goal.join_line-requires
join_line-requires c = still_joinable c.told-rows c.requires c.loop-number-test.true c.loop-number.invariant (is_through _ _ _ c.if-level-common.true)

pub loop-number-preserved : goal.loop-number-preserved
loop-number-preserved c =
    let below = c.loop-number-test.true in
    let same = c.loop-number.invariant in
    elim c.if-level-common.branch [
      | then-level-common w ↦ w.rows-is ∙ line_joined c.told-rows c.requires below same (is_through _ _ _ w.if-level-common.true) w.join_line.ensures
      | else-level-common w ↦ w.rows-is ∙ line_passed c.told-rows c.requires below same (not_through _ _ _ w.if-level-common.false)
    ]
