use native.Mathlib.Omega.{arith}
use Prim.Native.Nat.{◌<◌}
use mathlib.Core.Path.{◌≡◌, refl, ◌∙◌}
use Rattle.paths.specs.Rules.{set_lines}
use Rattle.paths.proofs.PathRows.{within_path}
use Rattle.booking.proofs.SplitNode.{line_passed, through_splittable, line_split}
use Rattle.booking.proofs.split_node.Goals as goal
use Rattle.booking.proofs.split_node.Goals.{then-same_node, else-same_node}

pub loop-number-init : goal.loop-number-init
unfolding set_lines
loop-number-init c = refl

pub same_node-requires : goal.same_node-requires
same_node-requires c = within_path _ _ c.requires.on_path

pub split_line-requires : goal.split_line-requires
split_line-requires c =
    let below : c.loop-number.number < 64 = omega arith in
    through_splittable c.told-rows c.requires below c.loop-number.invariant c.same_node.ensures c.if-same_node.true

pub loop-number-preserved : goal.loop-number-preserved
loop-number-preserved c =
    let below : c.loop-number.number < 64 = omega arith in
    elim c.if-same_node.branch [
      | then-same_node w ↦ w.rows-is ∙ line_split c.told-rows c.requires below c.loop-number.invariant c.same_node.ensures w.if-same_node.true w.split_line.ensures
      | else-same_node w ↦ w.rows-is ∙ line_passed c.told-rows c.requires below c.loop-number.invariant c.same_node.ensures w.if-same_node.false
    ]

pub returns : goal.returns
returns c =
    let all : c.loop-number.number ≡ 64 = omega arith in
    rw all at c.loop-number.invariant
