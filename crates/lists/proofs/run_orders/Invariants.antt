-- `lists::run_orders` meets its contract. The invariant: what is left of the list completes what the whole list gives (`Running`).
-- Assumes nothing.
use Rattle.lists.proofs.OrdersInTurn.{Running}
use Rattle.lists.proofs.run_orders.Given as goal

abbrev pub invariant-loop-k : goal.invariant-loop-k
invariant-loop-k l = Running l.initial.rows l.orders l.initial.answers l.rows l.answers l.any l.k
