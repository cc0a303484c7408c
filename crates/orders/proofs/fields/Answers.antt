-- `orders::fields` meets its contract: the four fields are taken out of the word that the bytes are.
-- Assumes nothing.
use native.Mathlib.Omega.{arith}
use Rattle.orders.specs.Order.{kind, line, period, filler, fields_of}
use Rattle.bits.proofs.FieldLaws.{field_below}
use Rattle.orders.proofs.fields.Goals as goal

pub overflow_cast-result : goal.overflow_cast-result
overflow_cast-result c = omega (arith, field_below 12 4 c.word_of-word.result)

pub returns : goal.returns
unfolding fields_of kind line period filler
returns c = cc
