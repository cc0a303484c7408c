-- `asking::ends_below` meets its contract: a path through row 10 has no further row, and any other ends where the next weight is 0.
-- Assumes nothing.
use native.Mathlib.Omega.{arith}
use mathlib.Core.Path.{sym}
use Rattle.paths.proofs.PathRows.{within_path}
use Rattle.asking.proofs.PathEnd.{ends_in_last_row, ends_by_weight}
use Rattle.asking.proofs.ends_below.Goals as goal

pub returns-then-level-eq10 : goal.returns-then-level-eq10
returns-then-level-eq10 c = sym (ends_in_last_row _ _ c.requires c.if-level-eq10.true)

pub overflow_add-level : goal.overflow_add-level
overflow_add-level c = omega (arith, within_path _ _ c.requires)

pub weight-requires : goal.weight-requires
weight-requires c = omega (arith, within_path _ _ c.requires)

pub returns : goal.returns
returns c = ends_by_weight _ _ c.requires (omega (arith, within_path _ _ c.requires)) c.weight.ensures
