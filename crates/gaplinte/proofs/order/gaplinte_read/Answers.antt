-- `gaplinte::order::gaplinte_read` meets its contract, by that of `orders::read`: the line that is read has 6 bits.
-- Assumes nothing.
use borrow.Author.Rules.{rules}
use Rattle.tree.specs.Answered.{outcome_of}
use Rattle.orders.specs.Reading.{call_told}
use Rattle.gaplinte.specs.OrdersServed.{bytes_in, call_numbers}
use Rattle.gaplinte.proofs.Serving.{written}
use Rattle.gaplinte.proofs.ValuesBelow.{line_read_below_64}
use Rattle.gaplinte.proofs.order.gaplinte_read.Goals as goal

pub map-requires : goal.map-requires
unfolding outcome_of
map-requires c x is = line_read_below_64 _ _ (rw is at c.read-found.ensures)

pub returns : goal.returns
unfolding bytes_in
returns c =
    let told = written call_told call_numbers _ _ c.read-found.ensures c.map.ensures.cases (λ o ns p. search rules) c.write.ensures.answer c.write.ensures.left in
    rw c.from.ensures (record { answer_is = told.answer_is; call_is = told.numbers_are })
