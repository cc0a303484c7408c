-- What the check of a record answers.
-- Assumes nothing.
use Rattle.std.specs.Prelude.{ℕ, ◌≡◌, false, List, Option, MatchOption}
use Rattle.tree.specs.Record.{legal}
use Rattle.paths.specs.declared.record.TreeRecord.{TreeRecord}

-- (The tree, 16) the record, where it is a tree
unfoldable pub CheckedRecord : List ℕ → Option TreeRecord → Type 0
CheckedRecord rows found = MatchOption found (legal rows ≡ false) (λ checked. checked.rows.now ≡ rows)
