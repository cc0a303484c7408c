-- `lists::run_list_rows` meets its contract: the list is refused, or it ran.
-- Assumes nothing.
use mathlib.Core.Path.{sym}
use Rattle.std.proofs.lemmas.Result.{err_from_is_err_and}
use Rattle.tree.specs.Answered.{refusal_in}
use Rattle.lists.proofs.WholeList.{list_refused, list_run}
use Rattle.lists.proofs.run_list_rows.Goals as goal

pub returns-in_err-check_lengths : goal.returns-in_err-check_lengths
unfolding refusal_in
returns-in_err-check_lengths c =
    let told = err_from_is_err_and c.from_residual.result c.from_residual.ensures.1 in
    rw (told.1, told.2) (list_refused _ _ _ _ c.in_err-check_lengths.ensures)

pub run_checked-requires : goal.run_checked-requires
unfolding refusal_in
run_checked-requires c = sym c.in_ok-check_lengths.ensures

pub returns : goal.returns
unfolding refusal_in
returns c = list_run _ _ _ _ _ c.in_ok-check_lengths.ensures c.run_checked.ensures
