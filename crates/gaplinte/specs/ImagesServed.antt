-- What writing and reading an image give, for every record, every lent buffer and all bytes (document 02, Ask 9).
-- Assumes nothing.
use Rattle.std.specs.Prelude.{ℕ, ◌≡◌, List, ℤ, length}
use Rattle.tree.specs.Image.{image, write_outcome, buffer_after}
use Rattle.tree.specs.ImageReading.{read_outcome}
use Rattle.bridge.specs.Rows.{tree_of_rows, rows_given}
use Rattle.gaplinte.specs.Answer.{answer_number, zero_value}

-- (Ask 9, 9, 10) The image of a lent record written into a lent buffer: its answer, which is the image's length, and the buffer, as found where the call is refused.
pub record ImageWriteServed (rows before after : List ℕ) (r : ℤ) : Type 0 where
  pub answer_is : r ≡ answer_number (write_outcome (length before) (tree_of_rows rows))
  pub buffer_is : after ≡ buffer_after (write_outcome (length before) (tree_of_rows rows)) (image (tree_of_rows rows)) before

-- (Ask 9, 4, 7) Bytes read into a lent record: its answer, and the record after it, that of the image's tree, as found where the call is refused.
pub record ImageReadServed (bytes before after : List ℕ) (r : ℤ) : Type 0 where
  pub answer_is : r ≡ answer_number (zero_value (read_outcome bytes))
  pub rows_are : after ≡ rows_given (read_outcome bytes) before
