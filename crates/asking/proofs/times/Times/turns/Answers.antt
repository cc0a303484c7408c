-- `asking::times::Times::turns` meets its contract: the rounds end before the next turn, or come to it.
-- Assumes nothing.
use Prim.Native.Nat.{◌+◌, ◌-◌}
use native.Mathlib.Omega.{arith}
use mathlib.Core.Path.{◌≡◌}
use borrow.Author.Tests.{lt-ltb, le-ltb}
use Rattle.asking.specs.Turns.{turns_by_times}
use Rattle.asking.proofs.times.Times.turns.Goals as goal

pub returns-then-asked-needed : goal.returns-then-asked-needed
unfolding turns_by_times
returns-then-asked-needed c = rw (← c.until_turn.ensures, le-ltb c.until_turn.result c.args.rounds (omega arith))

pub returns : goal.returns
unfolding turns_by_times
returns c =
    let asked = c.args.rounds in
    let until = c.until_turn.result in
    let same : asked - (until + 1) ≡ asked - 1 - until = omega arith in
    rw (← c.until_turn.ensures, lt-ltb until asked (omega arith), same)
