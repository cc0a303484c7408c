-- The invariant: the lines written and those of the orders that are left make up all lines (`Printing`).
-- Assumes nothing.
use Rattle.book_text.proofs.OrdersPrinted.{Printing}
use Rattle.book_text.proofs.text.Text.append_orders.Given as goal

abbrev pub invariant-loop-k : goal.invariant-loop-k
invariant-loop-k l = Printing l.initial.self l.orders l.answers l.self l.k
