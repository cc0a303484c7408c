-- What the count of nodes at a spot rests on: the node is on the line's path, and the numbers that are computed are in range.
-- Assumes nothing.
use Rattle.std.specs.Prelude.{ℕ, ◌*◌, ◌<◌, ◌≤◌, List, length}
use Rattle.tree.specs.Record.{path_at}
use Rattle.paths.specs.Rules.{Spot}

pub record Tryable (rows : List ℕ) (s : Spot) : Type 0 where
  pub on_path : s.level < length (path_at rows s.line)
  pub product_positive : 0 < s.step * s.divisor
  pub product_in_range : s.step * s.divisor ≤ 4095
