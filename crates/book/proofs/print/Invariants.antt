-- The measure of `print`: what is left of the text.
-- Assumes nothing.
use lib.ListN.{length}
use Rattle.book.proofs.print.Given as goal

abbrev pub decreases-loop-rest : goal.decreases-loop-rest
decreases-loop-rest g l = length l.rest
