-- `gaplinte::show::shown_numbers` meets its contract. The invariant: the numbers of the rows passed are written (`NumbersWritten`).
-- Assumes nothing.
use Prim.Native.Nat.{◌+◌, ◌*◌}
use Rattle.plan.specs.Ask.{shown_in}
use Rattle.gaplinte.proofs.RowsWritten.{NumbersWritten}
use Rattle.gaplinte.proofs.show.shown_numbers.Given as goal

abbrev pub invariant-loop-k : goal.invariant-loop-k
invariant-loop-k l = NumbersWritten (shown_in l.fn.line) l.shown (2 + 2 * l.k)
