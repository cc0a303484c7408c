-- `lines::open_line` meets its contract, by what the checks and the search found: a refusal, the root of an empty plan, or the chosen candidate.
-- Assumes nothing.
use mathlib.Core.Path.{sym}
use Rattle.std.proofs.lemmas.Result.{err_from_is_err_and}
use Rattle.tree.specs.Calls.{refusal}
use Rattle.bridge.proofs.CallsOnRecords.{refused_on}
use Rattle.lines.specs.Answers.{open_answer}
use Rattle.lines.specs.Checks.{OpenChecked}
use Rattle.lines.proofs.OpenLine.{checked_refusal, checked_root, checked_spot, open_first}
use Rattle.lines.proofs.open_line.Goals as goal

pub returns-in_err-room : goal.returns-in_err-room
unfolding open_answer refusal OpenChecked
returns-in_err-room c =
    let told = err_from_is_err_and c.from_residual.result c.from_residual.ensures.1 in
    rw (told.1, told.2) (refused_on _ _ _ (checked_refusal _ _ _ _ c.in_err-room.ensures))

pub book_at-requires : goal.book_at-requires
unfolding OpenChecked
book_at-requires c =
    let found = c.in_ok-room.ensures in
    rw found.0 (checked_spot _ _ _ found.1 c.in-Some.is)

pub returns-in_default : goal.returns-in_default
unfolding open_answer OpenChecked
returns-in_default c =
    let root = c.in_ok-room.ensures in
    let first = checked_root _ _ _ root.1 c.in_default.is in
    rw (c.place_first.ensures, root.0) (open_first _ _ _ first.0 c.told-rows first.1)

pub returns : goal.returns
unfolding open_answer OpenChecked
returns c = let placed = c.in_ok-room.ensures in rw (sym placed.0) c.book_at.ensures
