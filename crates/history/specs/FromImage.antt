-- Demand 3 of lists that begin at a plan that was read from an image (document 02, Ask 9): the reference tree is at first the image's tree, and the ledger
-- begins with its lines. That tree is what the bytes give (`read_outcome` of crate tree); the record that was read into is not asked.
-- Assumes nothing.
use Rattle.std.specs.Prelude.{ℕ, ◌≡◌, List, Result, None, ℤ}
use Rattle.tree.specs.declared.Plan.{Plan}
use Rattle.tree.specs.declared.refusal.Refusal.{Refusal}
use Rattle.tree.specs.Tree.{Tree}
use Rattle.tree.specs.Calls.{gives}
use Rattle.tree.specs.Lists.{Entry}
use Rattle.tree.specs.Record.{tree_of}
use Rattle.tree.specs.ImageReading.{read_outcome}
use Rattle.bridge.specs.Rows.{tree_of_rows}
use Rattle.lists.specs.Runs.{ListRan}
use Rattle.images.specs.Images.{ImageRead}
use Rattle.gaplinte.specs.ImagesServed.{ImageReadServed}
use Rattle.history.specs.declared.Replayed.{Replayed}
use Rattle.history.specs.Ran.{Ran}
use Rattle.history.specs.RanOnRows.{RanOnRows}
use Rattle.history.specs.RanInLibrary.{Answered, entries_told, RanInLibrary}
use Rattle.history.specs.FromPlan.{ClaimsFrom, ClaimsInLibrary}
use Rattle.history.specs.OrdersRun.{Demand3OfOrders}
use Rattle.history.specs.Replay.{ReplaysFromGiven}

-- (Ask 9, 6) Bytes that give the tree t were read into a plan, whatever it was before, and calls by value were run from the plan that was read.
unfoldable pub FromImageOfCalls : Type 0
FromImageOfCalls =
    (bytes : List ℕ) (t : Tree) → read_outcome bytes ≡ gives t →
    (before first : Plan) (a : Result Unit Refusal) → ImageRead bytes before.rows first.rows a →
    (entries : List Entry) (last : Plan) → Ran first entries last → ClaimsFrom t entries (tree_of last)

-- on a lent record
unfoldable pub FromImageOfRows : Type 0
FromImageOfRows =
    (bytes : List ℕ) (t : Tree) → read_outcome bytes ≡ gives t →
    (before first : List ℕ) (a : Result Unit Refusal) → ImageRead bytes before first a →
    (entries : List Entry) (last : List ℕ) → RanOnRows first entries last → ClaimsFrom t entries (tree_of_rows last)

-- of the exported calls, `gaplinte_read_image` among them
unfoldable pub FromImageOfLibrary : Type 0
FromImageOfLibrary =
    (bytes : List ℕ) (t : Tree) → read_outcome bytes ≡ gives t →
    (before first : List ℕ) (r : ℤ) → ImageReadServed bytes before first r →
    (calls : List Answered) (last : List ℕ) → RanInLibrary first calls last → ClaimsInLibrary t (entries_told calls) last

-- of a list of orders that is not refused
unfoldable pub FromImageOfLists : Type 0
FromImageOfLists =
    (bytes : List ℕ) (t : Tree) → read_outcome bytes ≡ gives t →
    (before first : Plan) (a : Result Unit Refusal) → ImageRead bytes before.rows first.rows a →
    (orders lent : List ℕ) (after : Plan) (written : List ℕ) → ListRan first orders lent None after written → Demand3OfOrders t orders lent after written

-- One run of the real calls

-- (Ask 9, 4, 6) Bytes were read, and calls run from the plan that they gave, or the bytes were refused.
unfoldable pub ReplaysImage : List ℕ → List ℕ → List ℕ → List ℕ → Result Replayed Refusal → Type 0
ReplaysImage bytes = ReplaysFromGiven (read_outcome bytes)
