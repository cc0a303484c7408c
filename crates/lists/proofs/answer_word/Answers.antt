-- `lists::answer_word` meets its contract, case by case.
-- Assumes nothing.
use native.Mathlib.Omega.{arith}
use Rattle.bits.specs.Field.{joined}
use Rattle.lists.specs.Lists.{result_field, start, answer_word}
use Rattle.lists.specs.Runs.{answer_in}
use Rattle.lists.proofs.answer_word.Goals as goal

pub returns-in-Ok-Some : goal.returns-in-Ok-Some
unfolding answer_word joined result_field start answer_in
returns-in-Ok-Some c = rw (c.in-Ok-Some.is, rw c.in-Ok-Some.is at c.in-Ok-Some.field-0-is) (omega arith)

pub returns-in-Ok-None : goal.returns-in-Ok-None
unfolding answer_word joined result_field start answer_in
returns-in-Ok-None c = rw (c.in-Ok-None.is, rw c.in-Ok-None.is at c.in-Ok-None.field-0-is)

pub returns-in-Err : goal.returns-in-Err
unfolding answer_word joined result_field start answer_in
returns-in-Err c = rw (c.in-Err.is, c.from-in-Err.ensures, c.from.ensures) (omega (arith, rw c.in-Err.is at c.requires))
