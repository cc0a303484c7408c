-- Demand 3 of the program's own calls (document 01, The lists of demand 3): the lists that can be run, and the claim about each.
-- A call's answer and its plan are those that its contract allows (`Meets` of crate plan); the claim itself is `Demand3` of crate tree. Then the rest of an
-- idle round after such a list (document 02, Ask 4).
-- Assumes nothing.
use Rattle.std.specs.Prelude.{ℕ, ◌+◌, ◌<◌, ◌≤◌, ◌≡◌, ◌↔◌, List, [], ◌∷◌, Some}
use Rattle.tree.specs.declared.Plan.{Plan}
use Rattle.tree.specs.Calls.{Answer, booked, done, refused}
use Rattle.tree.specs.Asking.{owner_or_rest}
use Rattle.tree.specs.Lists.{Booking, Ledger, Entry, ledger_of, RoundFits}
use Rattle.tree.specs.Demand3.{SomeOpen, Demand3}
use Rattle.tree.specs.Record.{tree_of}
use Rattle.plan.specs.declared.ask.OwnerAnswer.{OwnerAnswer}
use Rattle.plan.specs.declared.ask.OwnerAnswer.TheVariants.{Line, Idle}
use Rattle.plan.specs.Ask.{owner_answer}
use Rattle.plan.specs.Meets.{empty_plan, Meets}

-- (The lists of demand 3, 3) The plan for the next call: the one returned or, after a refusal, the one that the refused call was given.
unfoldable pub handed_on : Answer → Plan → Plan → Plan
handed_on (booked s) given returned = returned
handed_on done given returned = returned
handed_on (refused n) given returned = given

-- (The lists of demand 3, 1, 3, 4) The calls of `entries` were run one after the other from the plan `first`, gave those answers and left the plan `last`.
unfoldable pub Ran : Plan → List Entry → Plan → Type 0
Ran first [] last = last ≡ first
Ran first (x ∷ xs) last =
    (returned : Plan) × Meets x.call first x.answer returned × Ran (handed_on x.answer first returned) xs last

-- (The lists of demand 3, 2, 5) Demand 3: whatever list of opens and closes is run from the empty plan, the whole claim holds of it and of the tree of the plan that it leaves.
unfoldable pub Demand3OfCalls : Type 0
Demand3OfCalls = (entries : List Entry) (plan : Plan) → Ran empty_plan entries plan → Demand3 entries (tree_of plan)

-- An answer of the owner call names line L exactly when the ledger has L open and the round fits it.
unfoldable pub NamesOwner : Ledger → ℕ → OwnerAnswer → Type 0
NamesOwner ledger round a = (L : ℕ) → (a ≡ Line L) ↔ ((b : Booking) × (ledger L ≡ Some b) × RoundFits round b)

-- (The lists of demand 3, 19) The owner call is put to the plan that the list leaves: so it is with each answer that its contract allows.
unfoldable pub OwnerOfCalls : Type 0
OwnerOfCalls =
    (entries : List Entry) (plan : Plan) → Ran empty_plan entries plan →
    (round : ℕ) (a : OwnerAnswer) → owner_answer a ≡ owner_or_rest round (tree_of plan) → NamesOwner (ledger_of entries) round a

-- (Ask 4, 2, 3) By the ledger, g rounds lie from the round to the next owned one.
pub record RestsFor (ledger : Ledger) (round g : ℕ) : Type 0 where
  -- 0 exactly when no line is open
  pub zero_exactly : (g ≡ 0) ↔ (SomeOpen ledger → ⊥)
  -- where one is, the round after so many fits an open line
  pub next_owned : SomeOpen ledger → (L : ℕ) × (b : Booking) × (ledger L ≡ Some b) × RoundFits (round + g) b
  -- and no round before that one does
  pub none_before : (k : ℕ) → k < g → (L : ℕ) (b : Booking) → ledger L ≡ Some b → RoundFits (round + k) b → ⊥
  pub at_most : g ≤ 4094

-- An idle answer of the owner call tells that rest.
unfoldable pub TellsRest : Ledger → ℕ → OwnerAnswer → Type 0
TellsRest ledger round a = (g : ℕ) → a ≡ Idle g → RestsFor ledger round g

-- (Ask 4, 4) So it is with each answer of the owner call that its contract allows, put to the plan that the list leaves.
unfoldable pub RestOfCalls : Type 0
RestOfCalls =
    (entries : List Entry) (plan : Plan) → Ran empty_plan entries plan →
    (round : ℕ) (a : OwnerAnswer) → owner_answer a ≡ owner_or_rest round (tree_of plan) → TellsRest (ledger_of entries) round a
