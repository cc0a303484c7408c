-- `weaving::weave` meets its contract: one law of WovenOutcome for each return.
-- Assumes nothing.
use mathlib.Core.Path.{sym, ◌∙◌}
use Rattle.std.proofs.lemmas.Bool.{or_left, or_right}
use Rattle.tree.specs.Answered.{outcome_of, number_of}
use Rattle.weaving.specs.Sides.{PlansWoven}
use Rattle.weaving.proofs.WovenOutcome.{refused_15, refused_16, plan_woven}
use Rattle.weaving.proofs.weave.Goals as goal
use Rattle.weaving.proofs.weave.Goals.{then-doubled_out_of_range-via-then-doubled_out_of_range, then-doubled_out_of_range-via-else-doubled_out_of_range+then-doubled_out_of_range-2}

pub returns-then-open_in_both : goal.returns-then-open_in_both
unfolding PlansWoven outcome_of number_of
returns-then-open_in_both c = sym (refused_15 _ _ (sym c.open_in_both.ensures ∙ c.if-open_in_both.true))

pub returns-then-doubled_out_of_range : goal.returns-then-doubled_out_of_range
unfolding PlansWoven outcome_of number_of
returns-then-doubled_out_of_range c =
    sym (refused_16 _ _ (sym c.open_in_both.ensures ∙ c.if-open_in_both.false) (elim c.then-doubled_out_of_range.branch [
      | then-doubled_out_of_range-via-then-doubled_out_of_range w ↦ or_left _ _ (sym c.doubled_out_of_range.ensures ∙ w.if-doubled_out_of_range.true)
      | then-doubled_out_of_range-via-else-doubled_out_of_range+then-doubled_out_of_range-2 w ↦
          or_right _ _ (sym w.doubled_out_of_range-else-doubled_out_of_range.ensures ∙ w.if-doubled_out_of_range-2.true)
    ]))

pub returns : goal.returns
unfolding PlansWoven outcome_of
returns c =
    sym
    (plan_woven _ _ (sym c.open_in_both.ensures ∙ c.if-open_in_both.false) (sym c.doubled_out_of_range.ensures ∙ c.if-doubled_out_of_range.false)
    (sym c.doubled_out_of_range-else-doubled_out_of_range.ensures ∙ c.if-doubled_out_of_range-2.false)
    c.args.a.is_legal c.args.b.is_legal c.weave_side.ensures c.weave_side-2.ensures)
