-- `asking::sheet::is_idle` meets its contract: the walk found no line.
-- Assumes nothing.
use mathlib.Core.Path.{sym, ◌∙◌, ap}
use mathlib.Core.Bool.{not, not-not}
use Rattle.tree.specs.Answered.{line_number}
use Rattle.asking.proofs.SheetFigures.{found_mapped, owned_by_walk}
use Rattle.asking.proofs.sheet.is_idle.Goals as goal

pub returns : goal.returns
returns c =
    let owned_if_found = owned_by_walk _ c.args.tree.is_legal _ _ c.owner_of.ensures ∙ found_mapped line_number c.owner_of.result in
    sym (ap not (owned_if_found ∙ c.is_none.ensures) ∙ not-not _)
