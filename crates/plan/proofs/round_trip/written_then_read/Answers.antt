-- `plan::round_trip::written_then_read` meets its contract: the buffer is too short, or the image is written, and read as the plan's tree.
-- Assumes nothing.
use native.Mathlib.Omega.{arith}
use lib.ListN.{length-take}
use Rattle.std.proofs.lemmas.Result.{err_from_is_err_and}
use Rattle.bridge.specs.Rows.{tree_of_rows}
use Rattle.bridge.proofs.TreeOfRecord.{tree_of_legal}
use Rattle.plan.proofs.ImageCalls.{writing_refused, written_inside, never_refused, read_back}
use Rattle.plan.proofs.round_trip.written_then_read.Goals as goal

pub returns-in_err-length : goal.returns-in_err-length
unfolding tree_of_rows
returns-in_err-length c =
    let told = err_from_is_err_and c.from_residual.result c.from_residual.ensures.1 in
    rw (told.1, told.2) (writing_refused _ _ _ _ (rw c.in_err-length.was at c.write_image.ensures))

pub slice_bounds-read_image-end : goal.slice_bounds-read_image-end
unfolding tree_of_rows
slice_bounds-read_image-end c = written_inside _ _ _ _ (rw c.in_ok-length.was at c.write_image.ensures)

pub slice_bounds-read_image-end-2 : goal.slice_bounds-read_image-end-2
unfolding tree_of_rows
slice_bounds-read_image-end-2 c = omega (arith, length-take c.in_ok-length.length c.write_image.new.buffer, written_inside _ _ _ _ (rw c.in_ok-length.was at c.write_image.ensures))

pub returns-in_err-read : goal.returns-in_err-read
unfolding tree_of_rows
returns-in_err-read c =
    absurd (never_refused _ _ _ _ (rw c.in_ok-length.was at c.write_image.ensures) (tree_of_legal _) _ _ _ (rw c.in_err-read.was at c.read_image-read.ensures))

pub returns : goal.returns
unfolding tree_of_rows
returns c = read_back _ _ _ _ (rw c.in_ok-length.was at c.write_image.ensures) (tree_of_legal _) _ _ _ (rw c.in_ok-read.was at c.read_image-read.ensures)
