-- `history::replay_image` meets its contract, by those of the reading and of `replay_from`.
-- Assumes nothing.
use mathlib.Core.Path.{◌≡◌, refl}
use Rattle.std.proofs.lemmas.Result.{err_from_is_err_and}
use Rattle.tree.specs.declared.Plan.{Plan}
use Rattle.tree.specs.Record.{record_of}
use Rattle.bridge.proofs.RecordRoundTrip.{record_has_tree}
use Rattle.images.proofs.ReadsExactly.{tree_read_legal}
use Rattle.plan.proofs.ImageCalls.{image_read, image_refused}
use Rattle.history.specs.Replay.{ReplaysFromGiven}
use Rattle.history.specs.FromImage.{ReplaysImage}
use Rattle.history.proofs.replay_image.Goals as goal

pub returns-in_err-read : goal.returns-in_err-read
unfolding ReplaysImage ReplaysFromGiven
returns-in_err-read c =
    let told = err_from_is_err_and c.from_residual.result c.from_residual.ensures.1 in
    rw (told.1, told.2) (image_refused _ _ _ _ (rw c.in_err-read.was at c.read_image-read.ensures), refl)

pub returns : goal.returns
unfolding ReplaysImage ReplaysFromGiven
returns c =
    let x = image_read _ _ _ _ (rw c.in_ok-read.was at c.read_image-read.ensures) in
    let first_is : ◌≡◌ {A = Plan} c.read_image-read.result.plan (record_of x.tree) = λ i. record { rows = x.rows_are i } in
    let replays = rw first_is at c.replay_from.ensures in
    record {
      tree = x.tree;
      given = x.read_is;
      count_is = replays.count_is;
      first = replays.first;
      claims = rw (record_has_tree x.tree (tree_read_legal c.args.image.now x.tree x.read_is)) at replays.claims;
    }
