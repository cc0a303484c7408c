-- What the search of this crate finds, as the definitions over paths have it (crate paths, specs/Rules.antt).
-- Assumes nothing.
use Rattle.std.specs.Prelude.{ℕ, Bool, false, leb, Option, None, Some, option_map}
use Rattle.paths.specs.Rules.{Spot, spot_start}
use Rattle.candidates.specs.declared.spot.Spot.{Spot as FoundSpot}

-- a candidate of the code as one of the definitions
abbrev pub spot_in : FoundSpot → Spot
spot_in s =
    record {
      line = s.node.line.number;
      level = s.node.level;
      offset = s.node.offset;
      step = s.node.step;
      divisor = s.divisor;
      class = s.class;
    }

-- the candidate that was found
abbrev pub spot_of : Option FoundSpot → Option Spot
spot_of = option_map spot_in

-- there is a best candidate so far, and its start is at most n
unfoldable pub starts_by : Option Spot → ℕ → Bool
starts_by None n = false
starts_by (Some s) n = leb (spot_start s) n
