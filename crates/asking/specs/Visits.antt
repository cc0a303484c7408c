-- The node at which the walk for a round is, and what the walk carries there (document 02, Ask 2). `walk` requires it, so that it is proved at
-- every call of `walk`, those from node to node included.
-- Assumes nothing.
use Rattle.std.specs.Prelude.{ℕ, ◌%◌, ◌<◌, ◌≤◌, ◌≡◌, length, take}
use Rattle.tree.specs.Tree.{Tree, node, path_of, Place, at, way, step}

-- the place at level l whose offset is round n modulo m
abbrev pub visited : ℕ → ℕ → ℕ → Place
visited l m n = record { level = l; offset = n % m }

-- (Ask 2, 2) The walk for round n is at level l of line L's path and carries m.
pub record Visits (t : Tree) (L l m n : ℕ) : Type 0 where
  -- the node visited
  pub weight : ℕ
  pub edges : ℕ → Tree
  pub node_is : at (visited l m n) t ≡ node weight edges
  -- line L's path goes through it
  pub level_below : l < length (path_of L t)
  pub rows_above : take l (path_of L t) ≡ way (visited l m n) t
  -- what is carried is its step, at most 2,047
  pub step_is : m ≡ step (visited l m n) t
  pub step_at_most : m ≤ 2047
