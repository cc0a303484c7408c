-- Turns by a line's times, period p and start s: the formula that `turns` computes. That it is how many rounds the line owns is a law,
-- proofs/TurnsByDivision.antt. Then the nearest turn of several lines, which is the rest of a round: proofs/NearestTurn.antt.
-- Assumes nothing.
use Rattle.std.specs.Prelude.{ℕ, ◌+◌, ◌-◌, ◌/◌, ◌%◌, min, List, Option, Some, ltb, if◌then◌else◌}
use Rattle.std.specs.Option.{option_map_or}
use Rattle.tree.specs.declared.Row.{Row}
use Rattle.tree.specs.Tree.{product, sum}
use Rattle.tree.specs.Record.{no_rows}

-- how many rounds lie from round a to the next one that fits the line, which may be a itself
unfoldable pub until_turn : ℕ → ℕ → ℕ → ℕ
until_turn p s a = (s + p - a % p) % p

-- among N rounds that begin with a: that one, if they come to it, and one more for each whole period after it
unfoldable pub turns_by_times : ℕ → ℕ → ℕ → ℕ → ℕ
turns_by_times p s a N = if ltb (until_turn p s a) N then (N - 1 - until_turn p s a) / p + 1 else 0

-- the fewest rounds from n to a turn: `least`, those of other lines, or those of the line with this path. A closed line has no turn, and where no
-- line has one no number is there.
unfoldable pub nearer_turn : List Row → ℕ → Option ℕ → Option ℕ
nearer_turn ps n least =
    let until = until_turn (product ps) (sum ps) n in
    if no_rows ps then least else Some (option_map_or (min until) least until)
