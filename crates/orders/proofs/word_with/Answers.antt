-- `orders::word_with` meets its contract: kind, line, period and filler are joined, the kind highest.
-- Assumes nothing.
use native.Mathlib.Omega.{arith}
use Rattle.bits.specs.Field.{joined}
use Rattle.orders.specs.Order.{order_with}
use Rattle.orders.proofs.word_with.Goals as goal

pub join-kind_line-requires : goal.join-kind_line-requires
unfolding joined
join-kind_line-requires c = omega arith

pub join-kind_line_period-requires : goal.join-kind_line_period-requires
unfolding joined
join-kind_line_period-requires c = omega arith

pub join-requires : goal.join-requires
unfolding joined
join-requires c = omega arith

pub returns : goal.returns
unfolding order_with
returns c = cc
