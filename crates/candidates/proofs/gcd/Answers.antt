use Prim.Native.Nat.{ℕ, ◌<◌}
use native.Mathlib.Omega.{arith}
use native.Mathlib.Nat.{mod-lt}
use mathlib.Core.Path.{◌≡◌, refl, sym, ◌∙◌}
use Rattle.candidates.proofs.Euclid.{gcd_zero, gcd_division}
use Rattle.candidates.proofs.gcd.Goals as goal

positive : {n : ℕ} → (n ≡ 0 → ⊥) → 0 < n
positive {n} h = omega arith

pub loop-smaller-init : goal.loop-smaller-init
loop-smaller-init c = refl

pub nonzero_rem-rest : goal.nonzero_rem-rest
nonzero_rem-rest c = positive c.loop-smaller-test.true

pub loop-smaller-smaller : goal.loop-smaller-smaller
loop-smaller-smaller c = mod-lt c.loop-smaller.larger (positive c.loop-smaller-test.true)

pub loop-smaller-preserved : goal.loop-smaller-preserved
loop-smaller-preserved c = c.loop-smaller.invariant ∙ gcd_division _ _ c.loop-smaller-test.true

pub returns : goal.returns
returns c = sym (c.loop-smaller.invariant ∙ gcd_zero _ _ c.loop-smaller-test.false)
