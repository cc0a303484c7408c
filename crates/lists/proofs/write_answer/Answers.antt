-- `lists::write_answer` meets its contract: the two bytes of the answer's word take the place of two.
-- Assumes nothing.
use native.Mathlib.Omega.{arith}
use mathlib.Core.Path.{refl, ◌∙◌}
use Rattle.std.proofs.lemmas.Slice.{put_mid-paste}
use Rattle.lists.proofs.AnswerBytes.{bytes_of_word}
use Rattle.lists.proofs.write_answer.Goals as goal

pub returns : goal.returns
returns c =
    put_mid-paste _ _ _ _ _ 2 (c.copy_from_slice.ensures.after ∙ c.to_be_bytes.ensures ∙ bytes_of_word _ _ c.answer_word.ensures) (omega arith) refl
