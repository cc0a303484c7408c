-- `orders::word_of` meets its contract: the three bytes are joined, the first one highest.
-- Assumes nothing.
use native.Mathlib.Omega.{arith}
use mathlib.Core.Path.{ap, ◌∙◌}
use Rattle.bits.specs.Field.{joined}
use Rattle.orders.specs.Order.{order_of}
use Rattle.orders.proofs.word_of.Goals as goal

pub join-requires : goal.join-requires
unfolding joined
join-requires c = omega arith

pub join-requires-2 : goal.join-requires-2
unfolding joined
join-requires-2 c = omega arith

pub returns : goal.returns
unfolding order_of
returns c = c.join-2.ensures ∙ ap (λ x. joined 8 x c.args.bytes.2) c.join.ensures
