-- `plan::lookup::find_line` meets its contract: one law for each check that refuses, else the line that was found.
-- Assumes nothing.
use native.Mathlib.Omega.{arith}
use mathlib.Core.Path.{sym, ◌∙◌}
use Rattle.std.proofs.lemmas.Result.{err_from_is_err_and}
use Rattle.tree.specs.Answered.{number_of}
use Rattle.tree.proofs.Checks.{line_refused_1}
use Rattle.tree.proofs.LineAsked.{line_accepted, line_refused}
use Rattle.plan.specs.Lookup.{LookedUp}
use Rattle.plan.proofs.LineFound.{found_open, not_found}
use Rattle.plan.proofs.lookup.find_line.Goals as goal

pub returns-in_err-line : goal.returns-in_err-line
unfolding LookedUp
returns-in_err-line c =
    let told = err_from_is_err_and c.from_residual.result c.from_residual.ensures.1 in
    let above = line_refused _ _ c.in_err-line.ensures in
    rw (told.1, told.2, above.0) (line_refused_1 _ _ above.1)

pub returns-in_default : goal.returns-in_default
unfolding LookedUp number_of
returns-in_default c =
    rw (sym (line_accepted _ _ c.in_ok-line.ensures))
    (not_found _ _ (omega (arith, c.in_ok-line.line.below_64)) (sym c.lookup.ensures ∙ c.in_default.is))

pub returns : goal.returns
unfolding LookedUp
returns c =
    let same = line_accepted _ _ c.in_ok-line.ensures in
    (same, rw (sym same) (found_open _ _ _ c.told-rows (sym c.lookup.ensures ∙ c.in-Some.is)))
