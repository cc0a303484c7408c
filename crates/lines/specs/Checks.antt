-- What the checks and the search of an open find before anything is written (src/check.rt).
-- Assumes nothing.
use Rattle.std.specs.Prelude.{ℕ, ◌≡◌, true, List, Option, None, Some, Result, Ok, Err}
use Rattle.tree.specs.declared.refusal.Refusal.{Refusal}
use Rattle.tree.specs.Refusals.{no_room, open_refusal}
use Rattle.tree.specs.Answered.{number_of}
use Rattle.tree.specs.Record.{path_at}
use Rattle.paths.specs.Rules.{best_of_lines}
use Rattle.bridge.specs.Rows.{tree_of_rows}
use Rattle.candidates.specs.declared.spot.Spot.{Spot}
use Rattle.candidates.specs.Answers.{spot_in}
use Rattle.candidates.specs.Edges.{ClosedFrom}
use Rattle.lines.specs.declared.check.Room.{Room}
use Rattle.lines.specs.Bookable.{Bookable, BookableAt}

-- the search for period p: 5 where there is no room, the root where no line is open, else the chosen candidate
unfoldable pub Searched : List ℕ → ℕ → Result (Option Spot) Refusal → Type 0
Searched rows p (Err r) = (number_of r ≡ 5) × (no_room p (tree_of_rows rows) ≡ true)
Searched rows p (Ok None) = ClosedFrom rows 0
Searched rows p (Ok (Some s)) = best_of_lines (path_at rows) p 64 ≡ Some (spot_in s)

-- the same for an open of line L: the open's refusal, or where the line is booked
unfoldable pub RoomFound : List ℕ → ℕ → ℕ → Result (Option Spot) Refusal → Type 0
RoomFound rows L p (Err r) = open_refusal L p (tree_of_rows rows) ≡ Some (number_of r)
RoomFound rows L p (Ok None) = Bookable rows L p × ClosedFrom rows 0
RoomFound rows L p (Ok (Some s)) = BookableAt rows L p (spot_in s)

-- the checks of an open of line L with period p and the search: the open's refusal, or the line and where it is booked
unfoldable pub OpenChecked : List ℕ → ℕ → ℕ → Result Room Refusal → Type 0
OpenChecked rows L p (Err r) = RoomFound rows L p (Err r)
OpenChecked rows L p (Ok room) = (room.line.number ≡ L) × RoomFound rows L p (Ok room.spot)
