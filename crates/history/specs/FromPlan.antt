-- Demand 3 of lists that begin at any plan (document 02, Ask 9): the ledger begins with the lines of that plan's tree, and the reference tree is that tree.
-- So it is with the empty plan, of which Ran.antt, RanOnRows.antt and RanInLibrary.antt speak, with a plan that was read, and with a woven one.
-- Assumes nothing.
use Rattle.std.specs.Prelude.{ℕ, ◌≡◌, List, ℤ}
use Rattle.tree.specs.declared.Plan.{Plan}
use Rattle.tree.specs.declared.Sheet.{Sheet}
use Rattle.tree.specs.Tree.{Tree}
use Rattle.tree.specs.Asking.{owner_or_rest}
use Rattle.tree.specs.Sheet.{sheet}
use Rattle.tree.specs.Lists.{Entry, ledger_after}
use Rattle.tree.specs.Demand3.{Demand3From}
use Rattle.tree.specs.Record.{tree_of}
use Rattle.bridge.specs.Rows.{tree_of_rows}
use Rattle.plan.specs.declared.ask.OwnerAnswer.{OwnerAnswer}
use Rattle.plan.specs.Ask.{owner_answer}
use Rattle.gaplinte.specs.Answer.{answer_number}
use Rattle.gaplinte.specs.Served.{owner_outcome, SheetServed}
use Rattle.history.specs.Ran.{Ran, NamesOwner, TellsRest}
use Rattle.history.specs.RanOnRows.{RanOnRows}
use Rattle.history.specs.RanInLibrary.{Answered, entries_told, RanInLibrary, NumberNamesOwner, NumberTellsRest}
use Rattle.history.specs.Sheets.{SheetFor, sheet_told}

-- What is claimed of a list that began at a plan with the tree `first`: `entries` are its calls with their answers, and the plan that it left has the tree t.
pub record ClaimsFrom (first : Tree) (entries : List Entry) (t : Tree) : Type 0 where
  -- the whole of demand 3
  pub demand_3 : Demand3From first entries t
  -- and the owner call, put to the plan that was left
  pub owner_named : (round : ℕ) (a : OwnerAnswer) → owner_answer a ≡ owner_or_rest round t → NamesOwner (ledger_after first entries) round a
  pub rest_told : (round : ℕ) (a : OwnerAnswer) → owner_answer a ≡ owner_or_rest round t → TellsRest (ledger_after first entries) round a
  -- and the sheet call
  pub sheet_for : (a N : ℕ) (s : Sheet) → s ≡ sheet a N t → SheetFor (ledger_after first entries) a N s

-- (Ask 9, 6; Ask 10, 5) Of every list of calls by value, whatever plan its first call is given.
unfoldable pub FromPlanOfCalls : Type 0
FromPlanOfCalls = (entries : List Entry) (first last : Plan) → Ran first entries last → ClaimsFrom (tree_of first) entries (tree_of last)

-- on a lent record, whatever numbers it has at first
unfoldable pub FromPlanOfRows : Type 0
FromPlanOfRows = (entries : List Entry) (first last : List ℕ) → RanOnRows first entries last → ClaimsFrom (tree_of_rows first) entries (tree_of_rows last)

-- The same claim with the numbers of the exported owner and sheet call, put to the record that the list left.
pub record ClaimsInLibrary (first : Tree) (entries : List Entry) (rows : List ℕ) : Type 0 where
  pub demand_3 : Demand3From first entries (tree_of_rows rows)
  pub owner_named : (round : ℕ) (r : ℤ) → r ≡ answer_number (owner_outcome round rows) → NumberNamesOwner (ledger_after first entries) round r
  pub rest_told : (round : ℕ) (r : ℤ) → r ≡ answer_number (owner_outcome round rows) → NumberTellsRest (ledger_after first entries) round r
  pub sheet_for : (a N : ℕ) (numbers : List ℕ) (r : ℤ) → SheetServed rows a N numbers r → SheetFor (ledger_after first entries) a N (sheet_told numbers)

-- of the exported calls
unfoldable pub FromPlanOfLibrary : Type 0
FromPlanOfLibrary = (calls : List Answered) (first last : List ℕ) → RanInLibrary first calls last → ClaimsInLibrary (tree_of_rows first) (entries_told calls) last
