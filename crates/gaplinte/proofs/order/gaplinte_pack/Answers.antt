-- `gaplinte::order::gaplinte_pack` meets its contract, by that of `orders::pack` for the period as packing takes it.
-- Assumes nothing.
use mathlib.Core.Path.{◌∙◌}
use borrow.Author.Rules.{rules}
use Rattle.gaplinte.specs.OrdersServed.{byte_numbers}
use Rattle.gaplinte.proofs.Serving.{written, packing_stands_for}
use Rattle.gaplinte.proofs.order.gaplinte_pack.Goals as goal

pub returns : goal.returns
unfolding byte_numbers
returns c =
    let told =
    written (λ b. b) byte_numbers _ _ (rw c.period_asked.ensures at c.pack-packed.ensures ∙ packing_stands_for _ _ _) c.map.ensures.cases (λ b ns p. search rules)
    c.write.ensures.answer c.write.ensures.left in
    record { answer_is = told.answer_is; order_is = told.numbers_are }
