-- Where a line stands in a tree: with which period and which start (document 01, The tree).
-- Assumes nothing.
use Rattle.std.specs.Prelude.{ℕ, ◌+◌, ◌*◌, ◌<◌, ◌≡◌}
use Rattle.tree.specs.Tree.{Tree, nothing, line, node}

-- Something stands under an edge of a node of weight w. `S e p s` says that it stands under edge e, with period p and start s counted from there.
-- Counted from the node its period is q and its start u.
pub record UnderEdge (w q u : ℕ) (S : ℕ → ℕ → ℕ → Type 0) : Type 0 where
  pub edge : ℕ
  pub period : ℕ
  pub start : ℕ
  pub edge_below : edge < w
  pub stands : S edge period start
  pub period_is : q ≡ w * period
  pub start_is : u ≡ edge + w * start

-- (The tree, 7, 9) Line L stands in the tree with period q and start u.
unfoldable pub Stands : ℕ → Tree → ℕ → ℕ → Type 0
Stands L nothing q u = ⊥
Stands L (line n) q u = (n ≡ L) × (q ≡ 1) × (u ≡ 0)
Stands L (node w f) q u = UnderEdge w q u (λ e p s. Stands L (f e) p s)
