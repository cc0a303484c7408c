-- `asking::owner_of` meets its contract: the walk from the root, which the first open line's path goes through.
-- Assumes nothing.
use native.Mathlib.Nat.{div-one}
use mathlib.Core.Path.{sym, ◌∙◌}
use Rattle.asking.proofs.Walking.{first_open_within, owner_idle, owner_by_walk}
use Rattle.asking.proofs.Visiting.{visits_root}
use Rattle.asking.proofs.owner_of.Goals as goal

pub returns-in_err-line : goal.returns-in_err-line
returns-in_err-line c = rw c.from_residual.ensures (sym (owner_idle _ _ (sym c.in_err-line.ensures)))

pub walk-requires : goal.walk-requires
walk-requires c =
    let within = first_open_within _ _ (sym c.in_ok-line.ensures) in
    visits_root _ c.args.tree.is_legal _ within.0 _ within.1

pub returns : goal.returns
returns c = c.walk.ensures ∙ rw div-one (sym (owner_by_walk _ _ _ (sym c.in_ok-line.ensures)))
