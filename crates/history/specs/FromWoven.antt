-- Demand 3 of lists that start from a plan woven from two (document 02, Ask 10): the first tree is what the rule weaves of the trees of the two, for the reference tree
-- and for the ledger, and the record that was written is not asked.
-- Assumes nothing.
use Rattle.std.specs.Prelude.{ℕ, ◌≡◌, List, Result, Ok, None, ℤ}
use Rattle.tree.specs.declared.Plan.{Plan}
use Rattle.tree.specs.declared.refusal.Refusal.{Refusal}
use Rattle.tree.specs.Lists.{Entry, calls_of, ledger_of_tree, ledger_of, reference}
use Rattle.tree.specs.Calls.{gives}
use Rattle.tree.specs.Record.{tree_of}
use Rattle.tree.specs.Weaving.{woven, weave_outcome, woven_booking}
use Rattle.bridge.specs.Rows.{tree_of_rows}
use Rattle.lists.specs.Runs.{ListRan}
use Rattle.weaving.specs.Sides.{PlansWoven}
use Rattle.plan.specs.Meets.{empty_plan}
use Rattle.gaplinte.specs.Answer.{answer_number}
use Rattle.gaplinte.specs.WeavingServed.{WeaveServed}
use Rattle.history.specs.declared.Replayed.{Replayed}
use Rattle.history.specs.Ran.{Ran}
use Rattle.history.specs.RanOnRows.{RanOnRows}
use Rattle.history.specs.RanInLibrary.{Answered, entries_told, RanInLibrary}
use Rattle.history.specs.FromPlan.{ClaimsFrom, ClaimsInLibrary}
use Rattle.history.specs.OrdersRun.{Demand3OfOrders}
use Rattle.history.specs.Replay.{ReplaysFromGiven}

-- (Ask 10, 5) Two plans, whatever their records, were woven, and calls by value were run from the woven plan.
unfoldable pub FromWovenOfCalls : Type 0
FromWovenOfCalls =
    (a b : List ℕ) (first : Plan) → PlansWoven a b (Ok first) →
    (entries : List Entry) (last : Plan) → Ran first entries last → ClaimsFrom (woven (tree_of_rows a) (tree_of_rows b)) entries (tree_of last)

-- on a lent record that has the woven plan's numbers
unfoldable pub FromWovenOfRows : Type 0
FromWovenOfRows =
    (a b : List ℕ) (first : Plan) → PlansWoven a b (Ok first) →
    (entries : List Entry) (last : List ℕ) → RanOnRows first.rows entries last → ClaimsFrom (woven (tree_of_rows a) (tree_of_rows b)) entries (tree_of_rows last)

-- of the exported calls, `gaplinte_weave` among them
unfoldable pub FromWovenOfLibrary : Type 0
FromWovenOfLibrary =
    (a b before first : List ℕ) (r : ℤ) → WeaveServed a b before first r → r ≡ answer_number (gives 0) →
    (calls : List Answered) (last : List ℕ) → RanInLibrary first calls last → ClaimsInLibrary (woven (tree_of_rows a) (tree_of_rows b)) (entries_told calls) last

-- of a list of orders that is not refused
unfoldable pub FromWovenOfLists : Type 0
FromWovenOfLists =
    (a b : List ℕ) (first : Plan) → PlansWoven a b (Ok first) →
    (orders lent : List ℕ) (after : Plan) (written : List ℕ) → ListRan first orders lent None after written →
    Demand3OfOrders (woven (tree_of_rows a) (tree_of_rows b)) orders lent after written

-- Where two lists of demand 3 left the two plans, the claim needs these plans no more: the first tree is woven from the lists' reference trees.
pub record ClaimsFromLists (xs ys entries : List Entry) (last : Plan) : Type 0 where
  pub claims : ClaimsFrom (woven (reference (calls_of xs)) (reference (calls_of ys))) entries (tree_of last)
  -- (Ask 10, 4, 5) and what the ledger begins with is doubled from the lists' ledgers: the period asked and the start answered when a line was last opened there
  pub ledger_begins : (L : ℕ) → ledger_of_tree (woven (reference (calls_of xs)) (reference (calls_of ys))) L ≡ woven_booking (ledger_of xs L) (ledger_of ys L)

unfoldable pub FromWovenLists : Type 0
FromWovenLists =
    (xs ys : List Entry) (a b first : Plan) → Ran empty_plan xs a → Ran empty_plan ys b → PlansWoven a.rows b.rows (Ok first) →
    (entries : List Entry) (last : Plan) → Ran first entries last → ClaimsFromLists xs ys entries last

-- One run of the real calls

-- (Ask 10, 5, 6) Two plans were woven, and calls run from the woven plan, or weaving was refused.
unfoldable pub ReplaysWoven : Plan → Plan → List ℕ → List ℕ → List ℕ → Result Replayed Refusal → Type 0
ReplaysWoven a b = ReplaysFromGiven (weave_outcome (tree_of a) (tree_of b))
