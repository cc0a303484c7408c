-- `paths::check_rows` meets its contract. The invariant: the rows passed are in range, their product is at most 4,095, and what is left decides (`InRange`).
-- A product of at most 4,095 and a weight of 16 bits has a product that fits 32 bits.
-- Assumes nothing.
use Rattle.paths.proofs.PathRange.{InRange}
use Rattle.paths.proofs.check_rows.Given as goal

abbrev pub invariant-loop-k : goal.invariant-loop-k
invariant-loop-k l = InRange l.rows l.line.number l.product l.k
