-- `gaplinte::answers::write` meets its contract, by that of `number`.
-- Assumes nothing.
use mir.Syntax.{w64}
use mir.ValLaws.{to_z-of_z}
use Rattle.tree.specs.Answered.{outcome_of}
use Rattle.gaplinte.specs.Answer.{zero_value}
use Rattle.gaplinte.proofs.answers.write.Goals as goal

pub returns-in-Ok-clause-answer : goal.returns-in-Ok-clause-answer
unfolding outcome_of zero_value
returns-in-Ok-clause-answer g c = rw (c.in-Ok.is, to_z-of_z w64 _ c.number.ensures.fits) c.number.ensures

pub returns-in-Err-clause-answer : goal.returns-in-Err-clause-answer
unfolding outcome_of zero_value
returns-in-Err-clause-answer g c = rw (c.in-Err.is, to_z-of_z w64 _ c.number-in-Err.ensures.fits) c.number-in-Err.ensures
