-- `images::read::read_line` meets its contract: one law of PartsInOrder and RowsRead for each return.
-- Assumes nothing.
use native.Mathlib.Omega.{arith}
use mathlib.Core.Path.{sym}
use Rattle.std.proofs.lemmas.Result.{err_from_is_err_and}
use Rattle.tree.specs.Answered.{outcome_of}
use Rattle.images.specs.Parts.{part_told, PathRead, LineRead}
use Rattle.images.proofs.PartsRead.{field_given}
use Rattle.images.proofs.PartsInOrder.{number_refused, count_refused, path_refused}
use Rattle.images.proofs.RowsRead.{line_put}
use Rattle.images.proofs.read.read_line.Goals as goal

pub returns-in_err-number : goal.returns-in_err-number
unfolding LineRead outcome_of
returns-in_err-number c =
    let told = err_from_is_err_and c.from_residual.result c.from_residual.ensures.1 in
    rw (told.1, told.2) (number_refused _ _ (sym c.in_err-number.ensures))

pub read_field-requires-2 : goal.read_field-requires-2
unfolding outcome_of part_told
read_field-requires-2 c = (omega arith, omega (arith, (field_given _ _ _ _ _ _ (sym c.in_ok-number.ensures)).next_is))

pub returns-in_err-count : goal.returns-in_err-count
unfolding LineRead outcome_of part_told
returns-in_err-count c =
    let told = err_from_is_err_and c.from_residual-in_err-count.result c.from_residual-in_err-count.ensures.1 in
    rw (told.1, told.2) (count_refused _ _ (sym c.in_ok-number.ensures) (sym c.in_err-count.ensures))

pub invariant_of-line : goal.invariant_of-line
unfolding outcome_of part_told
invariant_of-line c = record { below_64 = omega (arith, (field_given _ _ _ _ _ _ (sym c.in_ok-number.ensures)).at_most) }

pub read_path-requires : goal.read_path-requires
unfolding outcome_of part_told
read_path-requires c =
    let number_read = field_given _ _ _ _ _ _ (sym c.in_ok-number.ensures) in
    let count_read = field_given _ _ _ _ _ _ (sym c.in_ok-count.ensures) in
    (omega (arith, count_read.at_most), omega (arith, number_read.next_is, count_read.next_is, count_read.at_most))

pub returns-in_err-next : goal.returns-in_err-next
unfolding LineRead PathRead outcome_of part_told
returns-in_err-next c =
    let told = err_from_is_err_and c.from_residual-in_err-next.result c.from_residual-in_err-next.ensures.1 in
    rw (told.1, told.2) (path_refused _ _ (sym c.in_ok-number.ensures) (sym c.in_ok-count.ensures) c.in_err-next.ensures)

pub returns : goal.returns
unfolding LineRead PathRead outcome_of part_told
returns c = line_put _ _ (sym c.in_ok-number.ensures) (sym c.in_ok-count.ensures) c.in_ok-next.ensures
