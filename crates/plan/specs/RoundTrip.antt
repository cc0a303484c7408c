-- An image written and read back, and one read and written again (document 02, Ask 9).
-- Assumes nothing.
use Rattle.std.specs.Prelude.{ℕ, ◌≡◌, List, [], ◌∷◌, ltb, length, Result}
use Rattle.tree.specs.declared.Plan.{Plan}
use Rattle.tree.specs.declared.refusal.Refusal.{Refusal}
use Rattle.tree.specs.Tree.{Tree}
use Rattle.tree.specs.Refusals.{refuse, first_refusal}
use Rattle.tree.specs.Calls.{Outcome, gives_unless, refusal_of}
use Rattle.tree.specs.Answered.{outcome_of}
use Rattle.tree.specs.Record.{record_of}
use Rattle.tree.specs.Image.{image, write_outcome, buffer_after}
use Rattle.tree.specs.ImageReading.{and_then, read_outcome}

-- (Ask 9, 4, 5) The image of the plan with tree t was written into a buffer and read: what comes back is the plan with tree t.
pub record ReadBack (t : Tree) (before after : List ℕ) (a : Result Plan Refusal) : Type 0 where
  pub answer_is : outcome_of (λ plan. plan) a ≡ gives_unless (refusal_of (write_outcome (length before) t)) (record_of t)
  pub buffer_is : after ≡ buffer_after (write_outcome (length before) t) (image t) before

-- what reading bytes and then writing the plan into a buffer of so many bytes answers: their number, where the one is not refused nor the other
unfoldable pub written_again : List ℕ → ℕ → Outcome ℕ
written_again bytes room = and_then (read_outcome bytes) (λ t. gives_unless (first_refusal (refuse 8 (ltb room (length bytes)) ∷ [])) (length bytes))

-- (Ask 9, 4, 5) Bytes were read and the plan written into a buffer: they are the bytes that were read.
pub record WrittenAgain (bytes before after : List ℕ) (a : Result ℕ Refusal) : Type 0 where
  pub answer_is : outcome_of (λ n. n) a ≡ written_again bytes (length before)
  pub buffer_is : after ≡ buffer_after (written_again bytes (length before)) bytes before
