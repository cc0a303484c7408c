-- What calls make of the numbers of a plan record: an open and a close, and a call that gives a tree.
-- Assumes nothing.
use Rattle.std.specs.Prelude.{ℕ, ◌≡◌, true, List, Option, None, Some}
use Rattle.tree.specs.declared.Plan.{Plan}
use Rattle.tree.specs.Tree.{Tree}
use Rattle.tree.specs.Calls.{Call, Answer, refusal, carried_out, answer, Outcome, gives, refuses}
use Rattle.tree.specs.Record.{legal, tree_of, record_of}

-- the plan whose record has these numbers
abbrev pub plan_of : List ℕ → Plan
plan_of rows = record { rows = rows }

-- its tree
unfoldable pub tree_of_rows : List ℕ → Tree
tree_of_rows rows = tree_of (plan_of rows)

unfoldable pub rows_unless : Option ℕ → List ℕ → List ℕ → List ℕ
rows_unless (Some n) before after = before
rows_unless None before after = after

-- the record's numbers after a call: those of the tree that the rules leave, or as they were where the call is refused
unfoldable pub rows_after : Call → List ℕ → List ℕ
rows_after c rows = rows_unless (refusal c (tree_of_rows rows)) rows (record_of (carried_out c (tree_of_rows rows))).rows

-- (Ask 9, 4; Ask 10, 6) the plan that has the tree which a call gives
unfoldable pub plan_given : Outcome Tree → Outcome Plan
plan_given (gives t) = gives (record_of t)
plan_given (refuses n) = refuses n

-- (Ask 9, 4, 7; Ask 10, 6) the record's numbers after such a call, as found where it is refused
unfoldable pub rows_given : Outcome Tree → List ℕ → List ℕ
rows_given (gives t) before = (record_of t).rows
rows_given (refuses n) before = before

-- a legal record with a given tree; by its tree it is determined
pub record LegalWith (rows : List ℕ) (t : Tree) : Type 0 where
  pub is_legal : legal rows ≡ true
  pub tree_is : tree_of_rows rows ≡ t

-- a call was carried out on a record: its answer and what it left are those of the rules
pub record CarriedOut (c : Call) (before after : List ℕ) (a : Answer) : Type 0 where
  pub answer_is : a ≡ answer c (tree_of_rows before)
  pub rows_are : after ≡ rows_after c before
