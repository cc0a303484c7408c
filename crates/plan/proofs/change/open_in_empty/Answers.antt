-- `plan::change::open_in_empty` meets its contract, by what `lines::open_line` ensures of the empty plan.
-- Assumes nothing.
use mathlib.Core.Path.{ap, ◌∙◌}
use Rattle.std.proofs.lemmas.Result.{err_from_is_err_and}
use Rattle.tree.specs.declared.Plan.{Plan}
use Rattle.tree.specs.Record.{legal}
use Rattle.plan.proofs.Changes.{empty_legal, open_was_booked, open_was_refused}
use Rattle.plan.proofs.change.open_in_empty.Goals as goal

pub open_line-requires : goal.open_line-requires
open_line-requires c = ap (λ (p : Plan). legal p.rows) c.empty-fresh.ensures ∙ empty_legal

pub returns-in_err-start : goal.returns-in_err-start
returns-in_err-start c =
    let told = err_from_is_err_and c.from_residual.result c.from_residual.ensures.1 in
    rw (told.1, told.2) (open_was_refused _ c.requires _ _ _ _ c.empty-fresh.ensures _ c.in_err-start.ensures)

pub returns : goal.returns
returns c = open_was_booked _ c.requires _ _ _ _ c.empty-fresh.ensures _ c.in_ok-start.ensures
