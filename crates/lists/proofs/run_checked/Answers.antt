-- `lists::run_checked` meets its contract: the record is a tree, or it is none and the list runs on the empty plan.
-- Assumes nothing.
use mathlib.Core.Path.{sym, ◌∙◌}
use Rattle.lists.proofs.WholeList.{list_runnable, ran_in_place}
use borrow.Author.Rules.{rules}
use Rattle.lists.proofs.run_checked.Goals as goal

pub run_orders-requires : goal.run_orders-requires
run_orders-requires c = list_runnable _ _ _ (sym c.legal.ensures ∙ c.if-legal.true) (search rules)

pub returns-then-legal : goal.returns-then-legal
returns-then-legal c = ran_in_place _ _ _ _ _ (sym c.legal.ensures ∙ c.if-legal.true) c.told-rows c.run_orders.array_long _ c.run_orders.ensures
