-- What each call of the library gives, for every record and every number.
-- Assumes nothing.
use Rattle.std.specs.Prelude.{ℕ, ◌+◌, ◌≡◌, List, [], ◌∷◌, ◌++◌, ℤ, length, get_or, if◌then◌else◌, Option}
use Rattle.tree.specs.declared.Sheet.{Sheet}
use Rattle.tree.specs.Asking.{OwnerOrRest, owned_by, idle_for, owner_or_rest, Shown}
use Rattle.tree.specs.Sheet.{sheet}
use Rattle.tree.specs.Reason.{Reason, step_does_not_divide, line_stands}
use Rattle.tree.specs.Calls.{Call, Answer, booked, done, refused, answer, Outcome, gives, refuses, gives_unless, show_outcome}
use Rattle.tree.specs.Trial.{Trial, trial_outcome}
use Rattle.tree.specs.Record.{legal, numbers}
use Rattle.bridge.specs.Rows.{plan_of, tree_of_rows, rows_after}
use Rattle.plan.specs.declared.walker.WalkerPlace.{WalkerPlace}
use Rattle.plan.specs.Walker.{walk_outcome, place_after}
use Rattle.lists.specs.Lists.{list_refusal}
use Rattle.lists.specs.Runs.{plan_after_list, bytes_after_list}
use Rattle.gaplinte.specs.Answer.{answer_number, zero_value, numbers_or}

-- Open and close

-- the value of an open is the start, that of a close is 0
unfoldable pub change_outcome : Answer → Outcome ℕ
change_outcome (booked s) = gives s
change_outcome done = gives 0
change_outcome (refused n) = refuses n

-- an open or a close on a lent record: its answer, and the record after it, as found where the call is refused
pub record ChangeServed (c : Call) (before after : List ℕ) (r : ℤ) : Type 0 where
  pub answer_is : r ≡ answer_number (change_outcome (answer c (tree_of_rows before)))
  pub rows_are : after ≡ rows_after c before

-- Owner

-- (Asking the plan, 1; Ask 4, 2) The value is the line or, where the round is idle, 64, which is no line, plus the rest.
unfoldable pub owner_value : OwnerOrRest → ℕ
owner_value (owned_by L) = L
owner_value (idle_for g) = 64 + g

-- (Asking the plan, 2) the owner of a round by a lent record: no outcome of it is a refusal
unfoldable pub owner_outcome : ℕ → List ℕ → Outcome ℕ
owner_outcome round rows = gives (owner_value (owner_or_rest round (tree_of_rows rows)))

-- A tree

-- (The tree, 16) 1 where the record is a tree, 0 where it is none and every call treats it as the empty plan
unfoldable pub tree_outcome : List ℕ → Outcome ℕ
tree_outcome rows = gives (if legal rows then 1 else 0)

-- Show

-- (Asking the plan, 3) the numbers of what show gives: period, start, and those of the 11 rows
unfoldable pub shown_numbers : Shown → List ℕ
shown_numbers s = s.period ∷ s.start ∷ numbers s.rows

-- show of a line by a lent record: its answer, and the 24 numbers lent, as found where the call is refused
pub record ShowServed (rows : List ℕ) (L : ℕ) (before after : List ℕ) (r : ℤ) : Type 0 where
  pub answer_is : r ≡ answer_number (zero_value (show_outcome L (tree_of_rows rows)))
  pub shown_is : after ≡ numbers_or shown_numbers before (show_outcome L (tree_of_rows rows))

-- A trial

-- (Ask 3, 2) the numbers of what a trial gives: start, nodes added, and 1 where a node would be split, else 0
unfoldable pub tried_numbers : Trial → List ℕ
tried_numbers t = t.start ∷ t.added ∷ (if t.split then 1 else 0) ∷ []

-- a trial by a lent record: its answer, and the 3 numbers lent, as found where the call is refused
pub record TrialServed (rows : List ℕ) (L p : ℕ) (before after : List ℕ) (r : ℤ) : Type 0 where
  pub answer_is : r ≡ answer_number (zero_value (trial_outcome L p (tree_of_rows rows)))
  pub tried_is : after ≡ numbers_or tried_numbers before (trial_outcome L p (tree_of_rows rows))

-- A reason

-- (Ask 7, 2) The value is the line or, where the node's step does not divide the period, 64, which is no line.
unfoldable pub reason_value : Reason → ℕ
reason_value step_does_not_divide = 64
reason_value (line_stands L) = L

-- what reason answers, with that value
unfoldable pub reason_number : Outcome Reason → Outcome ℕ
reason_number (gives r) = gives (reason_value r)
reason_number (refuses n) = refuses n

-- A sheet

-- (Ask 5, 1) the numbers of a sheet: the turns of the 64 lines, and the idle rounds
unfoldable pub sheet_numbers : Sheet → List ℕ
sheet_numbers s = s.turns ++ (s.idle ∷ [])

-- the sheet of a lent record: no outcome of it is a refusal, its value is 0, and the 65 numbers lent are those of the sheet
pub record SheetServed (rows : List ℕ) (a N : ℕ) (after : List ℕ) (r : ℤ) : Type 0 where
  pub answer_is : r ≡ answer_number (gives 0)
  pub sheet_is : after ≡ sheet_numbers (sheet a N (tree_of_rows rows))

-- The walker

-- (Ask 4, 4) the value is that of the owner call
unfoldable pub walk_value : Outcome OwnerOrRest → Outcome ℕ
walk_value (gives o) = gives (owner_value o)
walk_value (refuses n) = refuses n

-- (The walker, 1) A place as two numbers: the next round, and the count of owned rounds.
unfoldable pub place_of : List ℕ → WalkerPlace
place_of place = record { next = get_or place 0 0; owned = get_or place 1 0 }

unfoldable pub place_numbers : WalkerPlace → List ℕ
place_numbers p = p.next ∷ p.owned ∷ []

-- (The walker, 2) A walker call on a lent record and a lent place: its answer, and the place moved on, as found where the call is refused.
pub record WalkServed (rows before after : List ℕ) (r : ℤ) : Type 0 where
  pub answer_is : r ≡ answer_number (walk_value (walk_outcome (place_of before) (tree_of_rows rows)))
  pub place_is : after ≡ place_numbers (place_after (place_of before) (tree_of_rows rows))

-- A list of orders

-- the value of a list that is not refused is 0
unfoldable pub list_outcome : Option ℕ → Outcome ℕ
list_outcome o = gives_unless o 0

-- (Orders, 4, 5) A list on a lent record: its answer, the record after it, and the lent answer bytes, as found where the list is refused.
pub record ListServed (before orders lent after written : List ℕ) (r : ℤ) : Type 0 where
  pub answer_is : r ≡ answer_number (list_outcome (list_refusal (length orders) (length lent)))
  pub rows_are : after ≡ (plan_after_list (list_refusal (length orders) (length lent)) (plan_of before) orders).rows
  pub bytes_are : written ≡ bytes_after_list (list_refusal (length orders) (length lent)) (plan_of before) orders lent
