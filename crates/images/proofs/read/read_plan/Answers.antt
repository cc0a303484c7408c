-- `images::read::read_plan` meets its contract: the lines are as many as counted.
-- Assumes nothing.
use native.Mathlib.Omega.{arith}
use mathlib.Core.Path.{sym}
use Rattle.std.proofs.lemmas.Result.{err_from_is_err_and}
use Rattle.tree.specs.Answered.{outcome_of}
use Rattle.images.specs.Parts.{part_told, LinesIn}
use Rattle.images.proofs.PartsRead.{field_given}
use Rattle.images.proofs.PartsInOrder.{number_of_lines_refused, lines_counted}
use Rattle.images.proofs.read.read_plan.Goals as goal

pub returns-in_err-count : goal.returns-in_err-count
unfolding LinesIn outcome_of
returns-in_err-count c =
    let told = err_from_is_err_and c.from_residual.result c.from_residual.ensures.1 in
    rw (told.1, told.2) (number_of_lines_refused _ (sym c.in_err-count.ensures))

pub read_lines-requires : goal.read_lines-requires
unfolding outcome_of part_told
read_lines-requires c =
    let count_read = field_given _ _ _ _ _ _ (sym c.in_ok-count.ensures) in omega (arith, count_read.next_is, count_read.at_most)

pub returns : goal.returns
unfolding outcome_of part_told
returns c = rw (lines_counted _ (sym c.in_ok-count.ensures)) c.read_lines.ensures
