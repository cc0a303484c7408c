-- A line that stands in a legal tree has a number of at most 63, so that an owner is one of the 64 lines, and a period of at most 4,095.
-- Assumes nothing.
use Prim.Native.Nat.{ℕ, ◌*◌, ◌<◌, ◌≤◌}
use native.Mathlib.Omega.{arith}
use native.Mathlib.Nat.{mul-one, one-mul, mul_assoc}
use mathlib.Core.Path.{◌≡◌, sym, subst}
use mathlib.Core.Logic.{inl, inr}
use Rattle.std.specs.Prelude.{Some}
use Rattle.tree.specs.Tree.{Tree, nothing, line, node}
use Rattle.tree.specs.Standing.{Stands}
use Rattle.tree.specs.Shape.{LegalUnder, Legal}
use Rattle.tree.specs.Asking.{owner}
use Rattle.tree.proofs.Put.{alone_line}
use Rattle.tree.proofs.Proper.{legal_proper}
use Rattle.tree.proofs.Ownership.{walk_owns}

under_number : (L m : ℕ) (t : Tree) (q u : ℕ) → LegalUnder m t → Stands L t q u → L ≤ 63
unfolding LegalUnder Stands
under_number L m nothing q u legal h = absurd h
under_number L m (line n) q u legal h = subst (λ (k : ℕ). k ≤ 63) h.0 legal.0
under_number L m (node w f) q u legal h =
    under_number L (m * w) (f h.edge) h.period h.start (legal.2 h.edge) h.stands

pub stands_number : (L : ℕ) (t : Tree) (q u : ℕ) → Legal t → Stands L t q u → L ≤ 63
unfolding Legal Stands
stands_number L nothing q u legal h = absurd h
stands_number L (line n) q u legal h = absurd legal
stands_number L (node w f) q u (inl legal) h = under_number L 1 (node w f) q u legal h
stands_number L (node w f) q u (inr alone) h =
    subst (λ (k : ℕ). k ≤ 63) (sym (alone_line L (node w f) q u alone h).0) alone.number_in_range

-- an owner is one of the 64 lines
pub owner_below_64 : (n : ℕ) (t : Tree) (L : ℕ) → Legal t → owner n t ≡ Some L → L < 64
owner_below_64 n t L is_legal named = omega (arith, stands_number L t _ _ is_legal (walk_owns L n t (legal_proper t is_legal) named).stands)

under_period : (L m : ℕ) (t : Tree) (q u : ℕ) → LegalUnder m t → Stands L t q u → m * q ≤ 4095
unfolding LegalUnder Stands
under_period L m nothing q u legal h = absurd h
under_period L m (line n) q u legal h = rw (h.1, mul-one) legal.1
under_period L m (node w f) q u legal h =
    rw (h.period_is, ← mul_assoc) (under_period L (m * w) (f h.edge) h.period h.start (legal.2 h.edge) h.stands)

pub stands_period : (L : ℕ) (t : Tree) (q u : ℕ) → Legal t → Stands L t q u → q ≤ 4095
unfolding Legal Stands
stands_period L nothing q u legal h = absurd h
stands_period L (line n) q u legal h = absurd legal
stands_period L (node w f) q u (inl legal) h = rw one-mul at (under_period L 1 (node w f) q u legal h)
stands_period L (node w f) q u (inr alone) h =
    omega (arith, (alone_line L (node w f) q u alone h).1)
