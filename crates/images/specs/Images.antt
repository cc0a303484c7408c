-- What writing and reading an image promise, for every tree, every lent buffer and all bytes.
-- Assumes nothing.
use Rattle.std.specs.Prelude.{ℕ, ◌≡◌, List, length, Result}
use Rattle.tree.specs.declared.refusal.Refusal.{Refusal}
use Rattle.tree.specs.Tree.{Tree}
use Rattle.tree.specs.Calls.{refusal_of}
use Rattle.tree.specs.Answered.{outcome_of, refusal_in}
use Rattle.tree.specs.Image.{image, write_outcome, buffer_after}
use Rattle.tree.specs.ImageReading.{read_outcome}
use Rattle.bridge.specs.Rows.{rows_given}

-- (Ask 9, 9, 10) The image of the plan with tree t was written: the answer, and the buffer, as found where it is refused.
pub record ImageWritten (t : Tree) (before after : List ℕ) (a : Result ℕ Refusal) : Type 0 where
  pub answer_is : outcome_of (λ n. n) a ≡ write_outcome (length before) t
  pub buffer_is : after ≡ buffer_after (write_outcome (length before) t) (image t) before

-- (Ask 9, 4, 7) An image was read into a record: the answer, and the record after it, which has the image's tree.
pub record ImageRead (bytes before after : List ℕ) (a : Result Unit Refusal) : Type 0 where
  pub answer_is : refusal_in a ≡ refusal_of (read_outcome bytes)
  pub rows_are : after ≡ rows_given (read_outcome bytes) before
