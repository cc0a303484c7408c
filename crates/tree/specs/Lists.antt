-- The lists of demand 3: the ledger and the reference tree (document 01, The lists of demand 3), which begin at the empty plan, at a plan that was read
-- (document 02, Ask 9), or at a woven one (Ask 10).
-- Assumes nothing.
use Rattle.std.specs.Prelude.{ℕ, ◌%◌, ◌≡◌, List, [], ◌∷◌, eqb, if◌then◌else◌, Option, None, Some, option_map}
use Rattle.tree.specs.Tree.{Tree, nothing, product, sum, path}
use Rattle.tree.specs.Calls.{Call, open_line, close_line, Answer, booked, done, refused, answer, after}

-- (The lists of demand 3, 8) What the ledger has of a line that is not closed.
pub record Booking : Type 0 where
  pub period : ℕ
  pub start : ℕ

-- (The lists of demand 3, 8, 12) Each line has a booking, or none where it is closed.
abbrev pub Ledger : Type 0
Ledger = ℕ → Option Booking

-- (The lists of demand 3, 8; Ask 9, 6; Ask 10, 5) The ledger with which a list begins at a tree: the tree's lines, each with its period and start.
-- In the empty plan all lines are closed (`all_closed_at_first`).
unfoldable pub ledger_of_tree : Tree → Ledger
ledger_of_tree t L = option_map (λ rs. record { period = product rs; start = sum rs }) (path L t)

unfoldable pub with_line : ℕ → Option Booking → Ledger → Ledger
with_line L b ledger M = if eqb M L then b else ledger M

-- (The lists of demand 3, 7, 9, 10, 11) One call and its answer entered.
unfoldable pub enter : Call → Answer → Ledger → Ledger
enter (open_line L p) (booked s) ledger = with_line L (Some (record { period = p; start = s })) ledger
enter (open_line L p) done ledger = ledger
enter (open_line L p) (refused n) ledger = ledger
enter (close_line L) (booked s) ledger = ledger
enter (close_line L) done ledger = with_line L None ledger
enter (close_line L) (refused n) ledger = ledger

-- one call of a list with what it answered
pub record Entry : Type 0 where
  pub call : Call
  pub answer : Answer

-- the calls alone
unfoldable pub calls_of : List Entry → List Call
calls_of [] = []
calls_of (x ∷ xs) = x.call ∷ calls_of xs

-- the ledger after a list, from the ledger before it
unfoldable pub ledger_from : Ledger → List Entry → Ledger
ledger_from ledger [] = ledger
ledger_from ledger (x ∷ xs) = ledger_from (enter x.call x.answer ledger) xs

-- (The lists of demand 3, 7; Ask 9, 6; Ask 10, 5) The ledger after a list that began at a tree.
unfoldable pub ledger_after : Tree → List Entry → Ledger
ledger_after first xs = ledger_from (ledger_of_tree first) xs

-- (The lists of demand 3, 7, 8) The ledger after a list that began at the empty plan.
unfoldable pub ledger_of : List Entry → Ledger
ledger_of xs = ledger_after nothing xs

-- (The lists of demand 3, 13; Ask 9, 6; Ask 10, 5) The reference tree after a list that began at a tree.
unfoldable pub reference_from : Tree → List Call → Tree
reference_from t [] = t
reference_from t (c ∷ cs) = reference_from (after c t) cs

-- (The lists of demand 3, 13) The reference tree after a list that began at the empty plan.
unfoldable pub reference : List Call → Tree
reference cs = reference_from nothing cs

-- (The lists of demand 3, 2, 3, 4) The calls with the answers that the rules give, each on the tree that the one before it left.
unfoldable pub answered_from : Tree → List Call → List Entry
answered_from t [] = []
answered_from t (c ∷ cs) = record { call = c; answer = answer c t } ∷ answered_from (after c t) cs

-- (The lists of demand 3, 18) Round t, any whole number, fits a line that is booked so.
unfoldable pub RoundFits : ℕ → Booking → Type 0
RoundFits t b = t % b.period ≡ b.start
