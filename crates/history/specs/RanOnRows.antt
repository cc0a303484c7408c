-- Demand 3 of the calls on a lent record, `open_rows`, `close_rows` and `owner` of crate plan: the lists that can be run, and the claim about each.
-- What a call answers and leaves in the record is what its contract allows (`CarriedOut` of crate bridge). The claim itself is `Demand3` of crate tree.
-- Assumes nothing.
use Rattle.std.specs.Prelude.{ℕ, ◌≡◌, List, [], ◌∷◌}
use Rattle.tree.specs.Asking.{owner_or_rest}
use Rattle.tree.specs.Lists.{Entry, ledger_of}
use Rattle.tree.specs.Demand3.{Demand3}
use Rattle.bridge.specs.Rows.{tree_of_rows, CarriedOut}
use Rattle.plan.specs.declared.ask.OwnerAnswer.{OwnerAnswer}
use Rattle.plan.specs.Ask.{owner_answer}
use Rattle.plan.specs.Meets.{empty_plan}
use Rattle.history.specs.Ran.{NamesOwner, TellsRest}

-- (The lists of demand 3, 1, 3, 4) The calls of `entries` were made one after the other on one record, whose numbers were `first` before them and are `last` after them.
-- Each was made on the numbers that the call before it left; by its contract a refused call leaves them as found.
unfoldable pub RanOnRows : List ℕ → List Entry → List ℕ → Type 0
RanOnRows first [] last = last ≡ first
RanOnRows first (x ∷ xs) last =
    (left : List ℕ) × CarriedOut x.call first left x.answer × RanOnRows left xs last

-- (The lists of demand 3, 2, 5) Demand 3: whatever list of opens and closes is run on a record that is empty at first, the whole claim holds of it and of the record's tree.
unfoldable pub Demand3OfRows : Type 0
Demand3OfRows = (entries : List Entry) (rows : List ℕ) → RanOnRows empty_plan.rows entries rows → Demand3 entries (tree_of_rows rows)

-- (The lists of demand 3, 19) The owner call is put to the record that the list leaves: each answer that its contract allows names the owner.
unfoldable pub OwnerOfRows : Type 0
OwnerOfRows =
    (entries : List Entry) (rows : List ℕ) → RanOnRows empty_plan.rows entries rows →
    (round : ℕ) (a : OwnerAnswer) → owner_answer a ≡ owner_or_rest round (tree_of_rows rows) → NamesOwner (ledger_of entries) round a

-- (Ask 4, 4) and tells the rest where it is idle
unfoldable pub RestOfRows : Type 0
RestOfRows =
    (entries : List Entry) (rows : List ℕ) → RanOnRows empty_plan.rows entries rows →
    (round : ℕ) (a : OwnerAnswer) → owner_answer a ≡ owner_or_rest round (tree_of_rows rows) → TellsRest (ledger_of entries) round a
