-- `paths::chains::Chains::enter` meets its contract: it writes both arrays.
-- Assumes nothing.
use mathlib.Core.Path.{refl}
use Rattle.paths.specs.Chains.{with_line}
use Rattle.paths.proofs.chains.Chains.enter.Goals as goal

pub returns : goal.returns
unfolding with_line
returns c = refl
