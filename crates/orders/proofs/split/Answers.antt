-- `orders::split` meets its contract: each byte is a field of 8 bits.
-- Assumes nothing.
use native.Mathlib.Omega.{arith}
use Rattle.orders.specs.Order.{bytes_of}
use Rattle.bits.proofs.FieldLaws.{field_below}
use Rattle.orders.proofs.split.Goals as goal

pub overflow_cast-first : goal.overflow_cast-first
overflow_cast-first c = omega (arith, field_below 8 16 c.args.word)

pub overflow_cast-second : goal.overflow_cast-second
overflow_cast-second c = omega (arith, field_below 8 8 c.args.word)

pub overflow_cast-third : goal.overflow_cast-third
overflow_cast-third c = omega (arith, field_below 8 0 c.args.word)

pub returns : goal.returns
unfolding bytes_of
returns c = cc
