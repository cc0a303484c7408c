-- `plan::change::close_rows` meets its contract: the lookup refuses, or the line goes.
-- Assumes nothing.
use mathlib.Core.Path.{sym}
use Rattle.std.proofs.lemmas.Result.{err_from_is_err_and}
use Rattle.tree.specs.Calls.{refusal}
use Rattle.bridge.proofs.CallsOnRecords.{refused_on}
use Rattle.lines.specs.Answers.{close_answer}
use Rattle.plan.specs.Lookup.{LookedUp}
use Rattle.plan.proofs.change.close_rows.Goals as goal

pub returns-in_err-line : goal.returns-in_err-line
unfolding close_answer refusal LookedUp
returns-in_err-line c =
    let told = err_from_is_err_and c.from_residual.result c.from_residual.ensures.1 in
    rw (told.1, told.2) (refused_on _ _ _ c.in_err-line.ensures)

pub close_open_line-requires : goal.close_open_line-requires
unfolding LookedUp
close_open_line-requires c =
    let found = c.in_ok-line.ensures in
    (found.1.is_legal, rw found.0 found.1.has_rows)

pub returns : goal.returns
unfolding close_answer LookedUp
returns c = rw (sym c.in_ok-line.ensures.0) c.close_open_line.ensures
