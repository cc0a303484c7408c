-- `lines::check::find_room` meets its contract: no line is open, or the search found nothing, or a spot.
-- Assumes nothing.
use mathlib.Core.Path.{refl, sym}
use Rattle.tree.specs.Answered.{number_of}
use Rattle.lines.specs.Checks.{Searched}
use Rattle.lines.proofs.OpenLine.{root_found, no_room_found}
use Rattle.lines.proofs.check.find_room.Goals as goal

pub returns-then-lines-eq0 : goal.returns-then-lines-eq0
unfolding Searched
returns-then-lines-eq0 c = root_found c.open_lines-lines.ensures.end c.if-lines-eq0.true

pub returns-in_default : goal.returns-in_default
unfolding Searched number_of
returns-in_default c =
    let lines = c.open_lines-lines.ensures in
    (refl, no_room_found lines.end _ c.args.tree.is_legal c.if-lines-eq0.false (rw (lines.same_record, c.in_default.is) at (sym c.best_candidate.ensures)))

pub returns : goal.returns
unfolding Searched
returns c = rw (c.open_lines-lines.ensures.same_record, c.in-Some.is) at (sym c.best_candidate.ensures)
