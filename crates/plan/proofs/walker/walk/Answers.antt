-- `plan::walker::walk` meets its contract: one law for each way that it can go.
-- Assumes nothing.
use native.Mathlib.Omega.{arith}
use mathlib.Core.Path.{sym}
use Rattle.plan.specs.Ask.{owner_answer}
use Rattle.plan.proofs.WalkerLaws.{walk_refused_by_round, walk_refused_by_count, walk_idle, walk_owned}
use Rattle.plan.proofs.walker.walk.Goals as goal

pub returns-in_default : goal.returns-in_default
returns-in_default g c = walk_refused_by_round _ _ (omega (arith, c.in_default.ensures, c.well_formed))

pub returns-in_default-checked_add : goal.returns-in_default-checked_add
returns-in_default-checked_add g c = walk_refused_by_count _ _ (λ h. omega (arith, h, c.in-Some.ensures.0)) (omega (arith, c.in_default-checked_add.ensures, c.well_formed))

pub returns-in-Line : goal.returns-in-Line
unfolding owner_answer
returns-in-Line g c =
    rw (c.in-Line.is, c.in-Some.ensures.1, c.in-Some-checked_add.ensures.1)
    (walk_owned _ _ (λ h. omega (arith, h, c.in-Some.ensures.0)) (λ h. omega (arith, h, c.in-Some-checked_add.ensures.0)) _ (sym c.in-Line.ensures))

pub returns-in-Idle : goal.returns-in-Idle
unfolding owner_answer
returns-in-Idle g c =
    rw (c.in-Idle.is, c.in-Some.ensures.1)
    (walk_idle _ _ (λ h. omega (arith, h, c.in-Some.ensures.0)) (λ h. omega (arith, h, c.in-Some-checked_add.ensures.0)) _ (sym c.in-Idle.ensures))
