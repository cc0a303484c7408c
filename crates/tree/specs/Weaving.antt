-- Two plans woven into one (document 02, Ask 10): the rounds of the first become the even ones, those of the second the odd ones.
-- Assumes nothing.
use Rattle.std.specs.Prelude.{ℕ, ◌+◌, ◌*◌, Bool, ◌&&◌, ◌||◌, List, [], ◌∷◌, eqb, ltb, if◌then◌else◌, Option, option_map}
use Rattle.tree.specs.declared.Row.{Row}
use Rattle.tree.specs.Search.{or_else, some_below}
use Rattle.tree.specs.Tree.{Tree, nothing, line, node, row, is_open, period_of}
use Rattle.tree.specs.Opening.{put}
use Rattle.tree.specs.Closing.{prune}
use Rattle.tree.specs.Refusals.{refuse, first_refusal}
use Rattle.tree.specs.Calls.{Outcome, gives_unless}
use Rattle.tree.specs.Lists.{Booking}
use Rattle.tree.specs.Record.{alone}

-- The woven tree

-- (Ask 10, 3) What stands under the edge of a side: its tree or, where the root has weight 1, the line below that root.
unfoldable pub side : Tree → Tree
side nothing = nothing
side (line n) = line n
side (node w f) = if eqb w 1 then f 0 else node w f

-- (Ask 10, 2, 3) The root has weight 2. Its edge 0 leads to the tree of plan A and its edge 1 to that of plan B; where a plan is empty its edge is absent, and where both are there is no root.
unfoldable pub woven : Tree → Tree → Tree
woven a b = prune 2 (put 0 (side a) (put 1 (side b) (λ e. nothing)))

-- The refusals

-- (Ask 10, 6) some line is open in both
unfoldable pub open_in_both : Tree → Tree → Bool
open_in_both a b = some_below 64 (λ L. is_open L a && is_open L b)

-- (Ask 10, 6) the doubled period of some line passes 4,095
unfoldable pub doubled_out_of_range : Tree → Bool
doubled_out_of_range t = some_below 64 (λ L. is_open L t && ltb 4095 (2 * period_of L t))

-- (Ask 10, 6) Weaving: 15, 16.
unfoldable pub weave_refusal : Tree → Tree → Option ℕ
weave_refusal a b = first_refusal (refuse 15 (open_in_both a b) ∷ refuse 16 (doubled_out_of_range a || doubled_out_of_range b) ∷ [])

-- (Ask 10, 2, 6) What weaving gives: the woven tree, or the refusal.
unfoldable pub weave_outcome : Tree → Tree → Outcome Tree
weave_outcome a b = gives_unless (weave_refusal a b) (woven a b)

-- What becomes of a line, by which laws and code are stated

-- (Ask 10, 2, 3) its path on side e, 0 or 1: a row for the root, and behind it its own rows, but for that of a root of weight 1
unfoldable pub woven_path : ℕ → List Row → List Row
woven_path e rs = row 2 e ∷ (if alone rs then [] else rs)

-- (Ask 10, 4) its period and its start on that side
unfoldable pub doubled : ℕ → Booking → Booking
doubled e b = record { period = 2 * b.period; start = 2 * b.start + e }

-- (Ask 10, 4) the period and the start that it has in the woven tree, by what it has in plan A and in plan B, if it is open there
unfoldable pub woven_booking : Option Booking → Option Booking → Option Booking
woven_booking a b = or_else (option_map (doubled 0) a) (option_map (doubled 1) b)
