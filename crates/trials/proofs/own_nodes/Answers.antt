-- `trials::own_nodes` meets its contract, by the test of the quotient.
-- Assumes nothing.
use Rattle.std.specs.Prelude.{if◌then◌else◌}
use mathlib.Core.Bool.{Bool, true, false, not}
use mathlib.Core.Path.{◌≡◌, refl, ◌∙◌}
use lib.Dec.{eqb}
use mir.Val.{bool_byte}
use Rattle.paths.specs.Rules.{own_nodes}
use Rattle.trials.proofs.own_nodes.Goals as goal

one_unless : (b : Bool) → bool_byte (not b) ≡ (if b then 0 else 1)
one_unless true = refl
one_unless false = refl

pub returns : goal.returns
unfolding own_nodes
returns c = c.from.ensures ∙ one_unless (eqb c.args.q 1)
