-- What stands under an edge of a node stands in the node (specs/Standing.antt).
-- Assumes nothing.
use Prim.Native.Nat.{ℕ, ◌+◌, ◌*◌, ◌<◌, ◌≤◌}
use native.Mathlib.Omega.{arith}
use native.Mathlib.Decide.{dec_lt}
use mathlib.Core.Path.{◌≡◌, refl}
use mathlib.Core.Bool.{true, false, true≢false}
use Rattle.tree.specs.Tree.{Tree, nothing, line, node, present}
use Rattle.tree.specs.Standing.{UnderEdge, Stands}

pub stands_under : (L w : ℕ) (f : ℕ → Tree) (e p s : ℕ) → e < w → Stands L (f e) p s → Stands L (node w f) (w * p) (e + w * s)
unfolding Stands
stands_under L w f e p s below h =
    record { edge = e; period = p; start = s; edge_below = below; stands = h; period_is = refl; start_is = refl }

-- a line that does not stand in a node stands under none of its edges
pub stands_under_none : (L w : ℕ) (f : ℕ → Tree) → ((e : ℕ) → w ≤ e → f e ≡ nothing) → ((q u : ℕ) → Stands L (node w f) q u → ⊥) → (e p s : ℕ) → Stands L (f e) p s → ⊥
unfolding Stands
stands_under_none L w f beyond absent e p s h =
    elim (dec_lt e w) [
      | yes below ↦ absent _ _ (stands_under L w f e p s below h)
      | no above ↦ absurd (rw (beyond e (omega arith)) at h)
    ]

-- something else under the same edge, with the same period and start
abbrev pub same_edge : {w q u : ℕ} {S R : ℕ → ℕ → ℕ → Type 0} (x : UnderEdge w q u S) → R x.edge x.period x.start → UnderEdge w q u R
same_edge x h =
    record {
      edge = x.edge;
      period = x.period;
      start = x.start;
      edge_below = x.edge_below;
      stands = h;
      period_is = x.period_is;
      start_is = x.start_is;
    }

-- where a line stands, something is present
pub stands_present : (L : ℕ) (t : Tree) (q u : ℕ) → Stands L t q u → present t ≡ true
unfolding Stands present
stands_present L nothing q u h = absurd h
stands_present L (line n) q u h = refl
stands_present L (node w f) q u h = refl

-- and where nothing is present, nothing is there
pub absent_nothing : (t : Tree) → present t ≡ false → t ≡ nothing
unfolding present
absent_nothing nothing h = refl
absent_nothing (line n) h = absurd (true≢false h)
absent_nothing (node w f) h = absurd (true≢false h)
