-- The exported `gaplinte_trial`, and then `gaplinte_open` on the same record (document 02, Ask 3), as a caller reads them.
-- Assumes nothing.
use Rattle.std.specs.Prelude.{ℕ, suc, List, eqb, ℤ, pos, negsuc, get_or}
use Rattle.tree.specs.Calls.{open_line, Outcome, gives, refuses}
use Rattle.tree.specs.Trial.{Trial, BroughtAbout}
use Rattle.bridge.specs.Rows.{tree_of_rows}
use Rattle.gaplinte.specs.Served.{ChangeServed, TrialServed}
use Rattle.history.specs.RanInLibrary.{answer_told}

-- What a caller reads out of the trial's number and the three numbers lent to it: 0 or more says that they hold the figures, below 0 is minus the refusal.
unfoldable pub tried_told : ℤ → List ℕ → Outcome Trial
tried_told (pos n) tried = gives (record { start = get_or tried 0 0; added = get_or tried 1 0; split = eqb (get_or tried 2 0) 1 })
tried_told (negsuc n) tried = refuses (suc n)

-- (Ask 3, 4) The trial answered r and left three numbers, then the open on that record answered s: it did what the caller read out of the trial.
unfoldable pub OpenedAsTriedInLibrary : Type 0
OpenedAsTriedInLibrary =
    (L p : ℕ) (before lent tried after : List ℕ) (r s : ℤ) → TrialServed before L p lent tried r → ChangeServed (open_line L p) before after s →
    BroughtAbout (tried_told r tried) (answer_told (open_line L p) s) (tree_of_rows before) (tree_of_rows after)
