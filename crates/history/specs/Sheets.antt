-- The sheet after a list of opens and closes (document 02, Ask 5): by the list's ledger it says whose each round is, and it adds up.
-- What a list leaves and what the sheet call answers is what their contracts allow.
-- Assumes nothing.
use Rattle.std.specs.Prelude.{ℕ, ◌+◌, ◌%◌, ◌≡◌, Bool, false, not, List, eqb, ℤ, get_or, take, replicate, if◌then◌else◌, Option, None, Some}
use Rattle.tree.specs.declared.Plan.{Plan}
use Rattle.tree.specs.declared.Sheet.{Sheet}
use Rattle.tree.specs.Search.{found, some_below, total_below, count_below}
use Rattle.tree.specs.Sheet.{sheet, turns_on}
use Rattle.tree.specs.Lists.{Booking, Ledger, Entry, ledger_of}
use Rattle.tree.specs.Record.{tree_of}
use Rattle.bridge.specs.Rows.{tree_of_rows}
use Rattle.plan.specs.Meets.{empty_plan}
use Rattle.gaplinte.specs.Served.{SheetServed}
use Rattle.history.specs.Ran.{Ran}
use Rattle.history.specs.RanOnRows.{RanOnRows}
use Rattle.history.specs.RanInLibrary.{Answered, entries_told, RanInLibrary}

-- (The lists of demand 3, 18) A test: round n fits the line of which the ledger has this (`RoundFits`). No round fits a closed line.
unfoldable pub fits : ℕ → Option Booking → Bool
fits n None = false
fits n (Some b) = eqb (n % b.period) b.start

-- (Ask 5, 1, 3) By the ledger, these are the figures of the N rounds that begin with a.
pub record SheetFor (ledger : Ledger) (a N : ℕ) (s : Sheet) : Type 0 where
  -- the turns of a line are the rounds that fit it; a closed one has 0
  pub turns_are : (L : ℕ) → turns_on s L ≡ count_below N (λ i. fits (a + i) (ledger L))
  pub closed_has_0 : (L : ℕ) → ledger L ≡ None → turns_on s L ≡ 0
  -- the idle rounds are those that fit no line
  pub idle_are : s.idle ≡ count_below N (λ i. not (some_below 64 (λ L. fits (a + i) (ledger L))))
  -- the turns over all open lines plus the idle rounds make N
  pub adds_up : total_below 64 (λ L. if found (ledger L) then turns_on s L else 0) + s.idle ≡ N

-- (Ask 5, 3) After every list of calls by value: the sheet of the plan that the list leaves.
unfoldable pub SheetOfCalls : Type 0
SheetOfCalls =
    (entries : List Entry) (plan : Plan) → Ran empty_plan entries plan → (a N : ℕ) (s : Sheet) → s ≡ sheet a N (tree_of plan) → SheetFor (ledger_of entries) a N s

-- after every list on a lent record
unfoldable pub SheetOfRows : Type 0
SheetOfRows =
    (entries : List Entry) (rows : List ℕ) → RanOnRows empty_plan.rows entries rows → (a N : ℕ) (s : Sheet) → s ≡ sheet a N (tree_of_rows rows) → SheetFor (ledger_of entries) a N s

-- what a caller of the library reads out of the 65 numbers
unfoldable pub sheet_told : List ℕ → Sheet
sheet_told numbers = record { turns = take 64 numbers; idle = get_or numbers 64 0 }

-- after every list of the exported calls: `gaplinte_sheet` answered r and left these numbers
unfoldable pub SheetOfLibrary : Type 0
SheetOfLibrary =
    (calls : List Answered) (rows : List ℕ) → RanInLibrary (replicate 1408 0) calls rows →
    (a N : ℕ) (numbers : List ℕ) (r : ℤ) → SheetServed rows a N numbers r → SheetFor (ledger_of (entries_told calls)) a N (sheet_told numbers)
