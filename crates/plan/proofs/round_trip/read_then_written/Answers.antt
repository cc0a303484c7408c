-- `plan::round_trip::read_then_written` meets its contract: the image is refused, or its bytes are written.
-- Assumes nothing.
use native.Mathlib.Omega.{arith}
use Rattle.std.proofs.lemmas.Result.{err_from_is_err_and}
use Rattle.bridge.specs.Rows.{tree_of_rows}
use Rattle.images.proofs.BitsOfBytes.{below_each}
use Rattle.plan.proofs.ImageCalls.{read_refused, written_again}
use Rattle.plan.proofs.round_trip.read_then_written.Goals as goal

pub returns-in_err-read : goal.returns-in_err-read
returns-in_err-read c =
    let told = err_from_is_err_and c.from_residual.result c.from_residual.ensures.1 in
    rw (told.1, told.2) (read_refused _ _ _ _ _ (rw c.in_err-read.was at c.read_image-read.ensures))

pub returns : goal.returns
unfolding tree_of_rows
returns c =
    written_again _ _ _ _ _ _ _ (below_each 256 c.args.bytes.now (λ i. omega (arith, c.type_inv.bytes i))) (rw c.in_ok-read.was at c.read_image-read.ensures) c.write_image.ensures
