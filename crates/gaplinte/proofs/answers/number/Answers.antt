-- `gaplinte::answers::number` meets its contract: below 2^63 the cast keeps the value, and a refusal's number has 8 bits.
-- Assumes nothing.
use mathlib.Core.Path.{sym}
use borrow.Author.Rules.{rules}
use native.Mathlib.Omega.{arith}
use Rattle.std.proofs.lemmas.Int.{ints}
use Rattle.std.proofs.lemmas.Result.{IfOk-at_ok}
use Rattle.tree.specs.Answered.{outcome_of}
use Rattle.gaplinte.specs.Answer.{answer_number}
use Rattle.gaplinte.proofs.answers.number.Goals as goal

pub returns-in-Ok : goal.returns-in-Ok
unfolding outcome_of answer_number
returns-in-Ok c = rw c.in-Ok.is (record { number_is = omega (arith, ints, IfOk-at_ok _ c.in-Ok.is c.requires); fits = search rules })

pub returns-in-Err : goal.returns-in-Err
unfolding outcome_of answer_number
returns-in-Err c = rw (c.in-Err.is, c.from-in-Err.ensures, sym c.from.ensures) (record { number_is = omega (arith, ints); fits = search rules })
