-- `images::read::read_row` meets its contract: one law of PartsInOrder for each return.
-- Assumes nothing.
use native.Mathlib.Omega.{arith}
use mathlib.Core.Path.{sym}
use Rattle.std.proofs.lemmas.Result.{err_from_is_err_and}
use Rattle.tree.specs.Answered.{outcome_of}
use Rattle.images.specs.Parts.{part_told}
use Rattle.images.proofs.PartsRead.{field_given}
use Rattle.images.proofs.PartsInOrder.{weight_refused, edge_refused, edge_given}
use Rattle.images.proofs.read.read_row.Goals as goal

pub returns-in_err-weight : goal.returns-in_err-weight
unfolding outcome_of
returns-in_err-weight c =
    let told = err_from_is_err_and c.from_residual.result c.from_residual.ensures.1 in
    rw (told.1, told.2) (sym (weight_refused _ _ (sym c.in_err-weight.ensures)))

pub read_field-requires-2 : goal.read_field-requires-2
unfolding outcome_of part_told
read_field-requires-2 c = (omega arith, omega (arith, (field_given _ _ _ _ _ _ (sym c.in_ok-weight.ensures)).next_is))

pub returns-in_err-edge : goal.returns-in_err-edge
unfolding outcome_of part_told
returns-in_err-edge c =
    let told = err_from_is_err_and c.from_residual-in_err-edge.result c.from_residual-in_err-edge.ensures.1 in
    rw (told.1, told.2) (sym (edge_refused _ _ (sym c.in_ok-weight.ensures) (sym c.in_err-edge.ensures)))

pub overflow_cast-result : goal.overflow_cast-result
unfolding outcome_of part_told
overflow_cast-result c = omega (arith, (field_given _ _ _ _ _ _ (sym c.in_ok-weight.ensures)).at_most)

pub overflow_cast-result-2 : goal.overflow_cast-result-2
unfolding outcome_of part_told
overflow_cast-result-2 c = omega (arith, (field_given _ _ _ _ _ _ (sym c.in_ok-edge.ensures)).at_most)

pub returns : goal.returns
unfolding outcome_of part_told
returns c = sym (edge_given _ _ (sym c.in_ok-weight.ensures) (sym c.in_ok-edge.ensures))
