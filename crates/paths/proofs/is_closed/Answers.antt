-- `paths::is_closed` meets its contract: the first row's weight is 0 exactly where the path has no rows.
-- Assumes nothing.
use Prim.Native.Nat.{ℕ}
use mathlib.Core.Path.{ap, sym, ◌∙◌}
use lib.Dec.{eqb}
use Rattle.paths.proofs.PathRest.{no_rows_by_weight}
use Rattle.paths.proofs.is_closed.Goals as goal

pub returns : goal.returns
returns c = ap (λ (w : ℕ). eqb w 0) c.weight.ensures ∙ sym (no_rows_by_weight c.args.rows.now c.args.line.number)
