-- The owner of a round in a woven tree (specs/Weaving.antt): even rounds are those of the first tree, odd ones those of the second.
-- Assumes nothing.
use Rattle.std.specs.Prelude.{if◌then◌else◌, Some}
use Prim.Native.Nat.{ℕ, zero, suc, ◌/◌, ◌%◌, ◌<◌}
use native.Mathlib.Omega.{arith}
use native.Mathlib.Nat.{mod-lt, mod-one}
use mathlib.Core.Path.{◌≡◌, refl, sym, ◌∙◌, ap}
use mathlib.Core.Logic.{inl, inr}
use mathlib.Core.Bool.{Bool, true, false}
use lib.Dec.{eqb}
use Rattle.tree.specs.Search.{some_below}
use Rattle.tree.specs.Tree.{Tree, nothing, line, node, present}
use Rattle.tree.specs.Opening.{put, one_edge}
use Rattle.tree.specs.Closing.{prune}
use Rattle.tree.specs.Shape.{Alone, Legal}
use Rattle.tree.specs.Asking.{owner}
use Rattle.tree.specs.Weaving.{side, woven}
use Rattle.tree.proofs.Searching.{some_below_false}
use Rattle.tree.proofs.UnderEdge.{absent_nothing}
use Rattle.tree.proofs.Put.{put_same}
use Rattle.tree.proofs.WovenPaths.{root_edges, side_either, alone_side}

-- a root of weight 1 passes the round on as it is
alone_owner : (t : Tree) (n : ℕ) (alone : Alone t) → owner n t ≡ Some alone.number
unfolding owner one_edge
alone_owner t n alone =
    ap (owner n) alone.tree ∙ ap (owner (n / 1)) (put_same 0 (n % 1) (line alone.number) (λ e. nothing) (mod-one n))

-- a side has the owners of its tree
side_owner : (t : Tree) (n : ℕ) → Legal t → owner n (side t) ≡ owner n t
unfolding owner
side_owner t n legal =
    elim (side_either t legal) [
      | inl x ↦ ap (owner n) x.0
      | inr alone ↦ rw (alone_side t alone, alone_owner t n alone)
    ]

-- a pruned node has the owners of the node: where it is gone, no round had one
prune_owner : (n w : ℕ) (g : ℕ → Tree) → 0 < w → owner n (prune w g) ≡ owner n (node w g)
unfolding owner prune
prune_owner n w g positive = go (some_below w (λ e. present (g e))) refl
  where
    go : (b : Bool) → some_below w (λ e. present (g e)) ≡ b → owner n (if b then node w g else nothing) ≡ owner (n / w) (g (n % w))
    go true h = refl
    go false h = sym (ap (owner (n / w)) (absent_nothing (g (n % w)) (some_below_false w _ h (n % w) (mod-lt n positive))))

-- the root of weight 2 passes round n on as n / 2, to the first tree where n is even
pub woven_owner : (a b : Tree) (n : ℕ) → Legal a → Legal b → owner n (woven a b) ≡ (if eqb (n % 2) 0 then owner (n / 2) a else owner (n / 2) b)
unfolding woven owner put
woven_owner a b n legal_a legal_b =
    prune_owner n 2 (root_edges a b) (omega arith) ∙ by_edge (n % 2) (mod-lt n (omega arith))
  where
    by_edge : (e : ℕ) → e < 2 → owner (n / 2) (root_edges a b e) ≡ (if eqb e 0 then owner (n / 2) a else owner (n / 2) b)
    by_edge zero below = side_owner a (n / 2) legal_a
    by_edge (suc zero) below = side_owner b (n / 2) legal_b
    by_edge (suc (suc e)) below = absurd (omega arith)
