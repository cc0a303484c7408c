-- Demand 3 of the exported calls `gaplinte_open`, `gaplinte_close` and `gaplinte_owner`, from an all-zero record: the lists that can be run, and the claim about each.
-- What a call answers and leaves in the record is what its contract allows (`ChangeServed` of crate gaplinte). The claim itself is `Demand3` of crate tree.
-- Assumes nothing.
use Rattle.std.specs.Prelude.{ℕ, suc, ◌+◌, ◌≤◌, ◌≡◌, ◌↔◌, List, [], ◌∷◌, ℤ, pos, negsuc, replicate, Some}
use Rattle.tree.specs.Calls.{Call, open_line, close_line, Answer, booked, done, refused}
use Rattle.tree.specs.Lists.{Booking, Ledger, Entry, ledger_of, RoundFits}
use Rattle.tree.specs.Demand3.{Demand3}
use Rattle.bridge.specs.Rows.{tree_of_rows}
use Rattle.gaplinte.specs.Answer.{answer_number}
use Rattle.gaplinte.specs.Served.{ChangeServed, owner_outcome}
use Rattle.history.specs.Ran.{RestsFor}

-- one call of a list with the number that it answered
pub record Answered : Type 0 where
  pub call : Call
  pub number : ℤ

-- What a caller reads out of that number: 0 or more is the start of an open, or a close that is done; below 0 is minus the refusal.
unfoldable pub answer_told : Call → ℤ → Answer
answer_told (open_line L p) (pos s) = booked s
answer_told (close_line L) (pos n) = done
answer_told c (negsuc n) = refused (suc n)

-- the calls with the answers so read
unfoldable pub entries_told : List Answered → List Entry
entries_told [] = []
entries_told (x ∷ xs) = record { call = x.call; answer = answer_told x.call x.number } ∷ entries_told xs

-- (The lists of demand 3, 1, 3, 4) The exported calls were made one after the other on one lent record, whose numbers were `first` before them and are `last` after them.
-- Each was made on the numbers that the call before it left; by its contract a refused call leaves them as found.
unfoldable pub RanInLibrary : List ℕ → List Answered → List ℕ → Type 0
RanInLibrary first [] last = last ≡ first
RanInLibrary first (x ∷ xs) last =
    (left : List ℕ) × ChangeServed x.call first left x.number × RanInLibrary left xs last

-- (The lists of demand 3, 2, 5) Demand 3: whatever list of opens and closes is run on a record of zeros, the whole claim holds of the answers read and of the record's tree.
unfoldable pub Demand3OfLibrary : Type 0
Demand3OfLibrary = (calls : List Answered) (rows : List ℕ) → RanInLibrary (replicate 1408 0) calls rows → Demand3 (entries_told calls) (tree_of_rows rows)

-- A number of the owner call names line L exactly when the ledger has L open and the round fits it.
-- 64 and more, the numbers for an idle round, name no line.
unfoldable pub NumberNamesOwner : Ledger → ℕ → ℤ → Type 0
NumberNamesOwner ledger round r = (L : ℕ) → ((r ≡ pos L) × (L ≤ 63)) ↔ ((b : Booking) × (ledger L ≡ Some b) × RoundFits round b)

-- (The lists of demand 3, 19) The owner call is put to the record that the list leaves, and its number names the owner.
unfoldable pub OwnerOfLibrary : Type 0
OwnerOfLibrary =
    (calls : List Answered) (rows : List ℕ) → RanInLibrary (replicate 1408 0) calls rows →
    (round : ℕ) (r : ℤ) → r ≡ answer_number (owner_outcome round rows) → NumberNamesOwner (ledger_of (entries_told calls)) round r

-- Where the number is 64 or more, that number less 64 is the rest.
unfoldable pub NumberTellsRest : Ledger → ℕ → ℤ → Type 0
NumberTellsRest ledger round r = (g : ℕ) → r ≡ pos (64 + g) → RestsFor ledger round g

-- (Ask 4, 4) And so is that call's number.
unfoldable pub RestOfLibrary : Type 0
RestOfLibrary =
    (calls : List Answered) (rows : List ℕ) → RanInLibrary (replicate 1408 0) calls rows →
    (round : ℕ) (r : ℤ) → r ≡ answer_number (owner_outcome round rows) → NumberTellsRest (ledger_of (entries_told calls)) round r
