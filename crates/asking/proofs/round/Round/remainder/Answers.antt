-- `asking::round::Round::remainder` meets its contract: the sum leaves what it would leave with the whole round.
-- Assumes nothing.
use native.Mathlib.Nat.{mod-add-mod}
use Rattle.asking.proofs.round.Round.remainder.Goals as goal

pub returns : goal.returns
returns c = mod-add-mod _ _ _
