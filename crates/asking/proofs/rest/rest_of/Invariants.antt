-- `asking::rest::rest_of` meets its contract. The invariant: the nearest turn of the lines passed (`Nearest`).
-- Assumes nothing.
use Rattle.asking.proofs.NearestTurn.{Nearest}
use Rattle.asking.proofs.rest.rest_of.Given as goal

abbrev pub invariant-loop-number : goal.invariant-loop-number
invariant-loop-number l = Nearest l.tree.rows.now l.round l.least l.number
