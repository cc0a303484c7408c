use mathlib.Core.Path.{refl, sym, ◌∙◌}
use Rattle.paths.specs.Rules.{set_lines}
use Rattle.weaving.proofs.WovenSide.{woven_path_fits, closed_passed, open_woven}
use Rattle.weaving.proofs.weave_side.Goals as goal
use Rattle.weaving.proofs.weave_side.Goals.{then-not-is_closed, else-not-is_closed}

pub loop-number-init : goal.loop-number-init
unfolding set_lines
loop-number-init c = refl

pub weave_line-requires : goal.weave_line-requires
weave_line-requires c =
    woven_path_fits _ c.args.tree.is_legal c.requires _ c.loop-number-test.true c.args.side (sym c.is_closed.ensures ∙ c.if-not-is_closed.true)

pub loop-number-preserved : goal.loop-number-preserved
loop-number-preserved c =
    elim c.if-not-is_closed.branch [
      | then-not-is_closed w ↦
          w.rows-is ∙ open_woven _ _ _ _ c.loop-number.invariant (sym c.is_closed.ensures ∙ w.if-not-is_closed.true) w.weave_line.ensures
      | else-not-is_closed w ↦ w.rows-is ∙ closed_passed _ _ _ _ c.loop-number.invariant (sym c.is_closed.ensures ∙ w.if-not-is_closed.false)
    ]
