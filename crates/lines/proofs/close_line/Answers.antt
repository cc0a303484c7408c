-- `lines::close_line` meets its contract: one law for each check that refuses, else the line goes.
-- Assumes nothing.
use native.Mathlib.Omega.{arith}
use mathlib.Core.Path.{sym, ◌∙◌}
use Rattle.std.proofs.lemmas.Result.{err_from_is_err_and}
use Rattle.tree.specs.Answered.{number_of}
use Rattle.tree.proofs.LineAsked.{line_accepted, line_refused}
use Rattle.paths.proofs.PathLength.{lookup_at}
use Rattle.lines.specs.Answers.{close_answer}
use Rattle.lines.proofs.CloseLine.{close_above, close_absent}
use Rattle.lines.proofs.close_line.Goals as goal

pub returns-in_err-line : goal.returns-in_err-line
unfolding close_answer
returns-in_err-line c =
    let refusal = err_from_is_err_and c.from_residual.result c.from_residual.ensures.1 in
    let above = line_refused _ _ (c.in_err-line.ensures) in
    rw (refusal.1, refusal.2, above.0) (close_above _ _ above.1)

pub returns-in_default : goal.returns-in_default
unfolding close_answer number_of
returns-in_default c =
    let same = line_accepted _ _ (c.in_ok-line.ensures) in
    rw (sym same) (close_absent _ _ c.requires (omega (arith, c.in_ok-line.line.below_64)) (sym c.find.ensures ∙ c.in_default.is))

pub close_open_line-requires : goal.close_open_line-requires
close_open_line-requires c = (c.requires, lookup_at _ _ (sym c.find.ensures ∙ c.in-Some.is))

pub returns : goal.returns
unfolding close_answer
returns c =
    let same = line_accepted _ _ (c.in_ok-line.ensures) in
    rw (sym same) c.close_open_line.ensures
