-- How far the search has come, and which nodes it has looked at.
-- Assumes nothing.
use Rattle.std.specs.Prelude.{ℕ, suc, ◌<◌, ◌≡◌, true, false, List, length, get_or, take, Option}
use mathlib.Core.Logic.{◌⊎◌}
use Rattle.tree.specs.declared.Row.{Row}
use Rattle.tree.specs.Numbers.{divides}
use Rattle.tree.specs.Tree.{product, sum}
use Rattle.paths.specs.Rules.{Family, Spot, best_on_path, best_of_lines}
use Rattle.candidates.specs.declared.spot.PathNode.{PathNode}
use Rattle.candidates.specs.Answers.{starts_by}

-- the node is the one at its level of its line's path
pub record NodeOf (family : Family) (node : PathNode) : Type 0 where
  pub on_path : node.level < length (family node.line.number)
  pub step_is : node.step ≡ product (take node.level (family node.line.number))
  pub offset_is : node.offset ≡ sum (take node.level (family node.line.number))

-- level j of line M's path comes before level l of line L's: M is smaller, or it is the same path and j is smaller
abbrev pub Earlier : ℕ → ℕ → ℕ → ℕ → Type 0
Earlier M j L l = (M < L) ⊎ ((M ≡ L) × (j < l))

-- a node of offset r that was looked at before level l of line L's path, and n is 1 more than its level
pub record SeenNode (family : Family) (L l r n : ℕ) : Type 0 where
  pub line : ℕ
  pub level : ℕ
  pub earlier : Earlier line level L l
  pub on_path : level < length (family line)
  pub offset_is : r ≡ sum (take level (family line))
  pub level_is : n ≡ suc level

-- what has been noted before level l of line L's path: for each offset 0, or a node there
pub record Seen (family : Family) (L l : ℕ) (seen : List ℕ) : Type 0 where
  pub each : (r : ℕ) → (get_or seen r 0 ≡ 0 → ⊥) → SeenNode family L l r (get_or seen r 0)

-- the search still comes to level j of path rs: the step there divides p, and the offset is below the best start so far
pub record Reached (p : ℕ) (best : Option Spot) (rs : List Row) (j : ℕ) : Type 0 where
  pub divided : divides (product (take j rs)) p ≡ true
  pub in_time : starts_by best (sum (take j rs)) ≡ false

-- the search for period p has come to level l of line L's path: the best of the lines before and of the levels above; what was noted; and each node passed to
-- which the search still comes was noted
pub record SearchedTo (family : Family) (p L l : ℕ) (best : Option Spot) (seen : List ℕ) : Type 0 where
  pub best_is : best ≡ best_on_path family p (best_of_lines family p L) L l
  pub nodes_seen : Seen family L l seen
  pub none_missed : (M j : ℕ) → Earlier M j L l → j < length (family M) → Reached p best (family M) j → j < get_or seen (sum (take j (family M))) 0
