-- `images::read::read_lines` meets its contract: one law of RowsRead and PartsInOrder for each way round the loop and out of it.
-- Assumes nothing.
use native.Mathlib.Omega.{arith}
use mathlib.Core.Path.{◌≡◌}
use Rattle.std.proofs.lemmas.Result.{err_from_is_err_and}
use Rattle.images.specs.Parts.{LineRead, LinesIn}
use Rattle.images.proofs.PartsInOrder.{line_refused}
use Rattle.images.proofs.PartsEnd.{line_ends, lines_end}
use Rattle.images.proofs.RowsRead.{lines_begun, lines_more}
use Rattle.images.proofs.read.read_lines.Goals as goal

pub loop-init : goal.loop-init
loop-init c = lines_begun _ _

pub read_line-requires : goal.read_line-requires
read_line-requires c = omega (arith, lines_end _ _ _ _ c.loop.invariant.told.given)

pub returns-in_err-line : goal.returns-in_err-line
unfolding LineRead LinesIn
returns-in_err-line c =
    let told = err_from_is_err_and c.from_residual.result c.from_residual.ensures.1 in
    rw (told.1, told.2) (line_refused _ _ _ c.loop.invariant.told.given c.in_err-line.ensures _ (omega arith))

pub overflow_add-least : goal.overflow_add-least
unfolding LineRead
overflow_add-least c = omega (arith, (line_ends _ _ _ c.in_ok-line.ensures.given).number_below)

pub loop-preserved : goal.loop-preserved
unfolding LineRead
loop-preserved c = lines_more _ _ _ c.loop.invariant _ c.in_ok-line.ensures

pub returns : goal.returns
unfolding LinesIn
returns c =
    let all : c.loop.counter ≡ c.args.count = omega arith in
    rw all at c.loop.invariant.told
