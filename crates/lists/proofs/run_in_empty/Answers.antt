-- `lists::run_in_empty` meets its contract: some order was carried out on the empty plan, or none.
-- Assumes nothing.
use Rattle.lists.proofs.WholeList.{list_runnable, empty_stands_in, some_carried_out, none_carried_out}
use borrow.Author.Rules.{rules}
use Rattle.lists.proofs.run_in_empty.Goals as goal

pub run_orders-requires : goal.run_orders-requires
run_orders-requires c =
    let given = c.requires in
    list_runnable _ _ _ (empty_stands_in _ given.0).is_legal given.1

pub returns-then-run_orders : goal.returns-then-run_orders
returns-then-run_orders c = some_carried_out _ _ _ _ _ _ (empty_stands_in _ (search rules)) c.run_orders.array_long (rw c.if-run_orders.true at c.run_orders.ensures)

pub returns-else-run_orders : goal.returns-else-run_orders
returns-else-run_orders c = none_carried_out _ _ _ _ _ _ (empty_stands_in _ (search rules)) (rw c.if-run_orders.false at c.run_orders.ensures)
