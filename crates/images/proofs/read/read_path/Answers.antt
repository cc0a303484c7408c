-- `images::read::read_path` meets its contract: one law of RowsRead and PartsInOrder for each way round the loop and out of it.
-- Assumes nothing.
use native.Mathlib.Omega.{arith}
use mathlib.Core.Path.{◌≡◌, sym}
use Rattle.std.proofs.lemmas.Result.{err_from_is_err_and}
use Rattle.tree.specs.Answered.{outcome_of}
use Rattle.images.specs.Parts.{PathRead}
use Rattle.images.proofs.PartsInOrder.{row_refused}
use Rattle.images.proofs.PartsEnd.{path_ends}
use Rattle.images.proofs.RowsRead.{path_begun, path_more}
use Rattle.images.proofs.read.read_path.Goals as goal

pub loop-k-init : goal.loop-k-init
loop-k-init c = path_begun _ _ _ c.clear_line.ensures

pub read_row-requires : goal.read_row-requires
read_row-requires c = omega (arith, (path_ends _ _ _ _ c.loop-k.invariant.given).next_is)

pub returns-in_err-row : goal.returns-in_err-row
unfolding PathRead outcome_of
returns-in_err-row c =
    let told = err_from_is_err_and c.from_residual.result c.from_residual.ensures.1 in
    rw (told.1, told.2) (row_refused _ _ _ c.loop-k.invariant.given (sym c.in_err-row.ensures) _ (omega arith))

pub loop-k-preserved : goal.loop-k-preserved
unfolding outcome_of
loop-k-preserved c =
    path_more _ _ _ _ c.loop-k.invariant c.told-rows c.args.line.below_64 (omega arith) _ (sym c.in_ok-row.ensures) c.put_row.ensures

pub returns : goal.returns
unfolding PathRead
returns c =
    let all : c.loop-k.k ≡ c.args.count = omega arith in
    rw all at c.loop-k.invariant
