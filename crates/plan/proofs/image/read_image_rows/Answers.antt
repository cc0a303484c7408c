-- `plan::image::read_image_rows` meets its contract: the image is refused, or the record becomes that of its tree.
-- Assumes nothing.
use Rattle.std.proofs.lemmas.Result.{err_from_is_err_and}
use Rattle.tree.specs.Answered.{outcome_of}
use Rattle.plan.proofs.ImageCalls.{reading_refused, reading_given}
use Rattle.plan.proofs.image.read_image_rows.Goals as goal

pub returns-in_err-rows : goal.returns-in_err-rows
unfolding outcome_of
returns-in_err-rows c =
    let told = err_from_is_err_and c.from_residual.result c.from_residual.ensures.1 in
    rw (told.1, told.2) (reading_refused _ _ _ c.in_err-rows.ensures)

pub returns : goal.returns
unfolding outcome_of
returns c = reading_given _ _ _ c.in_ok-rows.ensures
