-- `lines::check::check_open` meets its contract: one law for each check that refuses, else what the search finds.
-- Assumes nothing.
use native.Mathlib.Omega.{arith}
use mathlib.Core.Path.{sym, ◌∙◌}
use Rattle.std.proofs.lemmas.Result.{err_from_is_err_and}
use Rattle.tree.specs.Answered.{number_of}
use Rattle.tree.proofs.Checks.{open_refused_1, open_refused_2}
use Rattle.tree.proofs.LineAsked.{line_accepted, line_refused}
use Rattle.lines.specs.Checks.{RoomFound, OpenChecked}
use Rattle.lines.proofs.OpenLine.{open_again, checks_passed, checked_if_bookable}
use Rattle.lines.proofs.check.check_open.Goals as goal

pub returns-in_err-line : goal.returns-in_err-line
unfolding OpenChecked RoomFound
returns-in_err-line c =
    let told = err_from_is_err_and c.from_residual.result c.from_residual.ensures.1 in
    let above = line_refused _ _ c.in_err-line.ensures in
    rw (told.1, told.2, above.0) (open_refused_1 _ _ _ above.1)

pub returns-then-is_out_of_range : goal.returns-then-is_out_of_range
unfolding OpenChecked RoomFound number_of
returns-then-is_out_of_range c =
    rw (sym (line_accepted _ _ c.in_ok-line.ensures))
    (open_refused_2 _ _ _ (omega (arith, c.in_ok-line.line.below_64)) (sym c.is_out_of_range.ensures ∙ c.if-is_out_of_range.true))

pub returns-then-not-is_closed : goal.returns-then-not-is_closed
unfolding OpenChecked RoomFound number_of
returns-then-not-is_closed c =
    rw (sym (line_accepted _ _ c.in_ok-line.ensures))
    (open_again _ _ _ c.args.tree.is_legal (omega (arith, c.in_ok-line.line.below_64)) (sym c.is_out_of_range.ensures ∙ c.if-is_out_of_range.false)
    (sym c.is_closed.ensures ∙ c.if-not-is_closed.true))

pub returns-in_err-spot : goal.returns-in_err-spot
unfolding OpenChecked
returns-in_err-spot c =
    let told = err_from_is_err_and c.from_residual-in_err-spot.result c.from_residual-in_err-spot.ensures.1 in
    let inside = sym c.is_out_of_range.ensures ∙ c.if-is_out_of_range.false in
    let ready = checks_passed _ _ _ c.args.tree.is_legal c.in_ok-line.line.below_64 inside (sym c.is_closed.ensures ∙ c.if-not-is_closed.false) in
    rw (told.1, told.2, sym (line_accepted _ _ c.in_ok-line.ensures)) (checked_if_bookable _ _ _ ready _ c.in_err-spot.ensures)

pub returns : goal.returns
unfolding OpenChecked
returns c =
    let same = line_accepted _ _ c.in_ok-line.ensures in
    let inside = sym c.is_out_of_range.ensures ∙ c.if-is_out_of_range.false in
    let ready = checks_passed _ _ _ c.args.tree.is_legal c.in_ok-line.line.below_64 inside (sym c.is_closed.ensures ∙ c.if-not-is_closed.false) in
    (same, rw (sym same) (checked_if_bookable _ _ _ ready _ c.in_ok-spot.ensures))
