-- What `replay` makes of a lent list of numbers: the calls that it runs, the answers that it writes, and the claim about them.
-- Assumes nothing.
use Rattle.std.specs.Prelude.{ℕ, zero, suc, ◌+◌, ◌*◌, ◌/◌, min, ◌≡◌, List, [], ◌∷◌, ◌++◌, eqb, length, get_or, drop, if◌then◌else◌, Result, MatchResult}
use Rattle.tree.specs.declared.Plan.{Plan}
use Rattle.tree.specs.declared.Sheet.{Sheet}
use Rattle.tree.specs.declared.refusal.Refusal.{Refusal}
use Rattle.tree.specs.Tree.{Tree}
use Rattle.tree.specs.Calls.{Call, open_line, close_line, Answer, booked, done, refused, Outcome, gives, refuses}
use Rattle.tree.specs.Answered.{number_of}
use Rattle.tree.specs.Lists.{Entry, calls_of, ledger_of}
use Rattle.tree.specs.Demand3.{Demand3}
use Rattle.tree.specs.Record.{tree_of, record_of}
use Rattle.plan.specs.declared.ask.OwnerAnswer.{OwnerAnswer}
use Rattle.plan.specs.Meets.{empty_plan}
use Rattle.history.specs.declared.Replayed.{Replayed}
use Rattle.history.specs.Ran.{Ran, NamesOwner, TellsRest}
use Rattle.history.specs.Sheets.{SheetFor}
use Rattle.history.specs.FromPlan.{ClaimsFrom}

-- Three numbers to a call: kind, line and period, of any size. Kind 0 opens; every other kind closes, and its period is not looked at.
unfoldable pub call_of : ℕ → ℕ → ℕ → Call
call_of kind L p = if eqb kind 0 then open_line L p else close_line L

unfoldable pub call_at : List ℕ → ℕ → Call
call_at numbers i = call_of (get_or numbers (3 * i) 0) (get_or numbers (3 * i + 1) 0) (get_or numbers (3 * i + 2) 0)

-- the first n calls
unfoldable pub first_calls : List ℕ → ℕ → List Call
first_calls numbers zero = []
first_calls numbers (suc n) = first_calls numbers n ++ (call_at numbers n ∷ [])

-- An answer as a number: a start as it is, which is below 2^16; 2^16 where a line was closed; 2^17 and the refusal.
unfoldable pub answer_number : Answer → ℕ
answer_number (booked s) = s
answer_number done = 65536
answer_number (refused n) = 131072 + n

unfoldable pub answer_numbers : List Entry → List ℕ
answer_numbers [] = []
answer_numbers (x ∷ xs) = answer_number x.answer ∷ answer_numbers xs

-- The first `count` calls were run from the plan `at_first` and left `plan`; their answers stand in front in the buffer, which is as it was behind them.
pub record RanFirst (at_first : Plan) (numbers before after : List ℕ) (count : ℕ) (plan : Plan) : Type 0 where
  pub entries : List Entry
  pub calls_are : calls_of entries ≡ first_calls numbers count
  pub answers_are : after ≡ answer_numbers entries ++ drop count before
  pub ran : Ran at_first entries plan

-- All calls were run that are whole and have room for their answer, from the plan `at_first`, and the claim holds of them and of the plan that they left.
pub record ReplaysFrom (at_first : Plan) (numbers before after : List ℕ) (count : ℕ) (plan : Plan) : Type 0 where
  pub count_is : count ≡ min (length numbers / 3) (length before)
  pub first : RanFirst at_first numbers before after count plan
  pub claims : ClaimsFrom (tree_of at_first) first.entries (tree_of plan)

-- (Ask 9, 6; Ask 10, 5) The same from the plan that a call gave, where the rules say that it gives a tree: the claim is of that tree.
pub record ReplaysGiven (o : Outcome Tree) (numbers before after : List ℕ) (replayed : Replayed) : Type 0 where
  pub tree : Tree
  pub given : o ≡ gives tree
  pub count_is : replayed.count ≡ min (length numbers / 3) (length before)
  pub first : RanFirst (record_of tree) numbers before after replayed.count replayed.plan
  pub claims : ClaimsFrom tree first.entries (tree_of replayed.plan)

-- So it is, or that call was refused, and nothing was run or written.
unfoldable pub ReplaysFromGiven : Outcome Tree → List ℕ → List ℕ → List ℕ → Result Replayed Refusal → Type 0
ReplaysFromGiven o numbers before after a =
    MatchResult a (ReplaysGiven o numbers before after) (λ e. (o ≡ refuses (number_of e)) × (after ≡ before))

-- From the empty plan: demand 3 holds of them and of the plan that they left.
pub record Replays (numbers before after : List ℕ) (count : ℕ) (plan : Plan) : Type 0 where
  pub count_is : count ≡ min (length numbers / 3) (length before)
  pub first : RanFirst empty_plan numbers before after count plan
  pub demand_3 : Demand3 first.entries (tree_of plan)

-- The same, and then the owner call was put to the plan that was left.
pub record ReplaysAndOwns (numbers before after : List ℕ) (round : ℕ) (a : OwnerAnswer) : Type 0 where
  pub count : ℕ
  pub plan : Plan
  pub replays : Replays numbers before after count plan
  pub names_owner : NamesOwner (ledger_of replays.first.entries) round a
  pub tells_rest : TellsRest (ledger_of replays.first.entries) round a

-- The same, and then the sheet call: its figures are those of the ledger, and they add up.
pub record ReplaysAndAddsUp (numbers before after : List ℕ) (a N : ℕ) (s : Sheet) : Type 0 where
  pub count : ℕ
  pub plan : Plan
  pub replays : Replays numbers before after count plan
  pub sheet_for : SheetFor (ledger_of replays.first.entries) a N s
