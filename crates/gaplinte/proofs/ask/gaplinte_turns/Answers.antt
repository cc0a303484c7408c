-- `gaplinte::ask::gaplinte_turns` meets its contract, by that of `plan::ask::turns`: the turns are at most the rounds.
-- Assumes nothing.
use native.Mathlib.Omega.{arith}
use Rattle.gaplinte.proofs.Serving.{if_given}
use Rattle.gaplinte.proofs.ValuesBelow.{turns_given}
use Rattle.gaplinte.proofs.ask.gaplinte_turns.Goals as goal

pub number-requires : goal.number-requires
number-requires c = if_given _ _ _ c.turns.ensures λ n given. omega (arith, turns_given _ _ _ _ n given, c.ranges.rounds.fits)
