-- Demand 3 (documents 00 and 01): one claim about a whole list of opens and closes, with the answers that were given and the tree that was left.
-- A list begins at the empty plan, at a plan that was read (document 02, Ask 9), or at a woven one (Ask 10): the claim is stated over the tree of the first plan.
-- It measures against the ledger and the reference tree (Lists.antt) and nothing else.
-- Assumes nothing.
use Rattle.std.specs.Prelude.{ℕ, ◌<◌, ◌≤◌, ◌≡◌, ◌↔◌, List, ◌∷◌, ◌++◌, length, if◌then◌else◌, None, Some}
use Rattle.tree.specs.Search.{found}
use Rattle.tree.specs.Tree.{Tree, nothing, is_open, path_of}
use Rattle.tree.specs.Opening.{NoCandidate, start_given}
use Rattle.tree.specs.Asking.{owner}
use Rattle.tree.specs.Refusals.{first_refusal, line_above_63, earlier_checks}
use Rattle.tree.specs.Calls.{open_line, close_line, Answer, booked, done, refused}
use Rattle.tree.specs.Lists.{Booking, Ledger, Entry, calls_of, ledger_after, reference_from, RoundFits}

-- some line is open
unfoldable pub SomeOpen : Ledger → Type 0
SomeOpen ledger = (L : ℕ) × (b : Booking) × (ledger L ≡ Some b)

-- the call was refused
unfoldable pub Refused : Answer → Type 0
Refused a = (n : ℕ) × (a ≡ refused n)

-- An open of line L with period p was answered with a, at a point where the ledger and the reference tree were these.
pub record OpenAnswered (ledger : Ledger) (t : Tree) (L p : ℕ) (a : Answer) : Type 0 where
  -- it failed an earlier check: refused with that check's number
  pub failed_earlier : (n : ℕ) → first_refusal (earlier_checks L p (found (ledger L))) ≡ Some n → a ≡ refused n
  -- it passed them: refused exactly when some line was open and no node was a candidate
  pub refused_exactly : first_refusal (earlier_checks L p (found (ledger L))) ≡ None → Refused a ↔ (SomeOpen ledger × NoCandidate p t)
  -- that refusal has the number 5
  pub refused_with_5 : first_refusal (earlier_checks L p (found (ledger L))) ≡ None → Refused a → a ≡ refused 5
  -- it was not refused: the start answered is the one that the rules give
  pub booked_by_the_rules : (Refused a → ⊥) → a ≡ booked (start_given p t)

-- A close of line L was answered with a, at a point where the ledger was this.
pub record CloseAnswered (ledger : Ledger) (L : ℕ) (a : Answer) : Type 0 where
  -- refused exactly when the line was not open
  pub refused_exactly : Refused a ↔ (ledger L ≡ None)
  -- with 1 for a line above 63, else with 4
  pub refused_with : Refused a → a ≡ refused (if line_above_63 L then 1 else 4)
  pub done_else : (Refused a → ⊥) → a ≡ done

-- The claim. The list began at a plan with the tree `first`, `entries` are its calls with their answers, and `t` is the tree of the plan that it left.
pub record Demand3From (first : Tree) (entries : List Entry) (t : Tree) : Type 0 where
  -- the plan has the reference tree
  pub tree : t ≡ reference_from first (calls_of entries)
  -- (The tree, 14) the lines that stand in the tree are those that the ledger has open
  pub open_lines : (L : ℕ) → is_open L t ≡ found (ledger_after first entries L)
  -- line L is named owner of round n exactly when it is open and n fits it
  pub ownership : (n L : ℕ) → (owner n t ≡ Some L) ↔ ((b : Booking) × (ledger_after first entries L ≡ Some b) × RoundFits n b)
  -- no round, however far on, fits two open lines
  pub one_line_a_round : (n L M : ℕ) (b c : Booking) → ledger_after first entries L ≡ Some b → ledger_after first entries M ≡ Some c → RoundFits n b → RoundFits n c → L ≡ M
  -- at most 11 nodes stand above an open line
  pub nodes_above : (L : ℕ) (b : Booking) → ledger_after first entries L ≡ Some b → length (path_of L (reference_from first (calls_of entries))) ≤ 11
  -- a line above 63 is never open
  pub line_range : (L : ℕ) → 63 < L → ledger_after first entries L ≡ None
  -- each open and each close, at its point of the list
  pub opens : (before : List Entry) (L p : ℕ) (a : Answer) (later : List Entry) → entries ≡ before ++ (record { call = open_line L p; answer = a } ∷ later) →
      OpenAnswered (ledger_after first before) (reference_from first (calls_of before)) L p a
  pub closes : (before : List Entry) (L : ℕ) (a : Answer) (later : List Entry) → entries ≡ before ++ (record { call = close_line L; answer = a } ∷ later) →
      CloseAnswered (ledger_after first before) L a

-- Document 01's demand 3: the list began at the empty plan.
unfoldable pub Demand3 : List Entry → Tree → Type 0
Demand3 entries t = Demand3From nothing entries t
