-- `paths::find` meets its contract: a path without rows is found as nothing, any other by its number of rows.
-- Assumes nothing.
use mathlib.Core.Path.{ap, sym, ◌∙◌}
use Rattle.std.specs.Prelude.{Some}
use Rattle.paths.proofs.PathLength.{lookup_closed, lookup_open}
use Rattle.paths.proofs.find.Goals as goal

pub returns-then-count-eq0 : goal.returns-then-count-eq0
returns-then-count-eq0 c = sym (lookup_closed _ (sym c.path_length-count.ensures ∙ c.if-count-eq0.true))

pub returns : goal.returns
returns c =
    let counted = c.path_length-count.ensures in
    ap Some counted ∙ sym (lookup_open _ (λ z. c.if-count-eq0.false (counted ∙ z)))
