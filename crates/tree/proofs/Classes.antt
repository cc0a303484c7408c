-- Classes of edges (specs/Opening.antt): when one is free, and which edge takes one that is not.
-- Assumes nothing.
use Prim.Native.Nat.{ℕ, ◌%◌, ◌<◌, ◌≤◌}
use native.Mathlib.Omega.{arith}
use native.Mathlib.Nat.{mod-lt}
use mathlib.Core.Path.{◌≡◌, refl, ap}
use mathlib.Core.Bool.{true, false, not, ◌&&◌, and-eq-true_iff}
use lib.Dec.{eqb}
use borrow.Author.Tests.{eqb-true, eq-eqb, ne_eqb, not-true, not-false}
use Rattle.tree.specs.Tree.{Tree, present}
use Rattle.tree.specs.Opening.{free}
use Rattle.tree.proofs.Searching.{some_below_true, some_below_false, some_below_at, some_below_none}

module _ (d w : ℕ) (f : ℕ → Tree) where
  -- no edge of a free class is present
  pub free_absent : (i e : ℕ) → free d w f i ≡ true → e < w → e % d ≡ i → present (f e) ≡ false
  unfolding free
  free_absent i e h below class =
      let absent = some_below_false w _ (not-true _ h) e below in
      rw (eq-eqb (e % d) i class) at absent

  -- a present edge takes its class
  pub present_taken : (e : ℕ) → e < w → present (f e) ≡ true → free d w f (e % d) ≡ false
  unfolding free
  present_taken e below here = ap not (some_below_at w _ e below (rw (eq-eqb (e % d) (e % d) refl) here))

  -- a class that is not free has a present edge
  pub taken_present : (k : ℕ) → free d w f k ≡ false → (e : ℕ) × (e < w) × (e % d ≡ k) × (present (f e) ≡ true)
  unfolding free
  taken_present k h =
      let x = some_below_true w _ (not-false _ h) in
      let both = (and-eq-true_iff (eqb (x.0 % d) k) (present (f x.0))).0 x.2 in
      (x.0, x.1, eqb-true (x.0 % d) k both.0, both.1)

  -- a number at or beyond d is no class of an edge
  pub beyond_free : (k : ℕ) → 0 < d → d ≤ k → free d w f k ≡ true
  unfolding free
  beyond_free k positive beyond = ap not (some_below_none w _ none_there)
    where
      none_there : (e : ℕ) → e < w → (eqb (e % d) k && present (f e)) ≡ false
      none_there e below =
          let small = mod-lt e positive in
          rw (ne_eqb (e % d) k (λ same. omega arith))
