-- The ways that show and turns can go on a plan record, and the sheet of one that is no tree.
-- Assumes nothing.
use Prim.Native.Nat.{ℕ, ◌<◌}
use native.Mathlib.Omega.{arith}
use mathlib.Core.Path.{◌≡◌, ◌∙◌, ap}
use mathlib.Core.Bool.{false}
use mathlib.Core.List.{List}
use lib.ListN.{replicate}
use Rattle.tree.specs.Tree.{product, sum}
use Rattle.tree.specs.Asking.{rows_11}
use Rattle.tree.specs.Sheet.{sheet}
use Rattle.tree.specs.Calls.{gives, show_outcome, turns_outcome}
use Rattle.tree.specs.Record.{path_at, legal}
use Rattle.tree.proofs.Sheets.{sheet_of_empty}
use Rattle.bridge.specs.Rows.{tree_of_rows}
use Rattle.bridge.proofs.AskingRecords.{shown_on_record, turns_not_refused, empty_on_illegal}
use Rattle.asking.specs.Turns.{turns_by_times}
use Rattle.asking.proofs.TurnsByDivision.{turns_on_record}
use Rattle.plan.specs.Lookup.{OpenIn}

-- an open line
module _ (rows : List ℕ) (L : ℕ) (below : L < 64) (present : OpenIn rows L) where
  pub shown_found : show_outcome L (tree_of_rows rows) ≡ gives (record { period = product (path_at rows L); start = sum (path_at rows L); rows = rows_11 (path_at rows L) })
  shown_found = shown_on_record rows present.is_legal L (omega arith) present.has_rows

  pub turns_found : (a N : ℕ) → turns_outcome L a N (tree_of_rows rows) ≡ gives (turns_by_times (product (path_at rows L)) (sum (path_at rows L)) a N)
  turns_found a N =
      turns_not_refused rows present.is_legal L (omega arith) a N present.has_rows ∙ ap gives (turns_on_record rows present.is_legal L below present.has_rows a N)

-- The sheet of a record that is no tree

pub sheet_on_illegal : (rows : List ℕ) → legal rows ≡ false → (a N : ℕ) → sheet a N (tree_of_rows rows) ≡ record { turns = replicate 64 0; idle = N }
sheet_on_illegal rows illegal a N = ap (sheet a N) (empty_on_illegal rows illegal) ∙ sheet_of_empty a N
