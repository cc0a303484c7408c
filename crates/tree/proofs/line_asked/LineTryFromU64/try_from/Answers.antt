-- A number is a line's where it is at most 63.
-- Assumes nothing.
use Rattle.std.proofs.Common.{rules, refl}
use Rattle.tree.specs.Answered.{LineOrRefusal}
use Rattle.tree.specs.Refusals.{line_above_63}
use Rattle.tree.proofs.line_asked.LineTryFromU64.try_from.Goals as goal

pub returns-then-number-gt63 : goal.returns-then-number-gt63
unfolding LineOrRefusal line_above_63
returns-then-number-gt63 c = (refl, search rules)

pub returns : goal.returns
unfolding LineOrRefusal line_above_63
returns c = (refl, search rules)
