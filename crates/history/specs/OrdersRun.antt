-- Demand 3 of a list of orders that is run on a plan by `lists::run_list`: the orders that can be read are a list of demand 3.
-- What the list leaves in the plan and in the lent bytes is what its contract allows (`ListRan` of crate lists).
-- Assumes nothing.
use Rattle.std.specs.Prelude.{ℕ, ◌*◌, ◌≡◌, List, [], ◌∷◌, ◌++◌, length, drop, None}
use Rattle.tree.specs.declared.Plan.{Plan}
use Rattle.tree.specs.Tree.{Tree, nothing}
use Rattle.tree.specs.Calls.{Call, Answer, refused, gives, refuses}
use Rattle.tree.specs.Lists.{Entry}
use Rattle.tree.specs.Record.{tree_of}
use Rattle.orders.specs.Reading.{reading}
use Rattle.lists.specs.Lists.{orders_of, answer_bytes}
use Rattle.lists.specs.Runs.{ListRan}
use Rattle.plan.specs.Meets.{empty_plan}
use Rattle.history.specs.FromPlan.{ClaimsFrom}

-- `OrdersAnswered orders entries answers`: the entries are the calls of the orders that can be read, with their answers.
-- The answers are those of all orders, in their sequence: such an order has the answer of its entry, and every other is refused with 6.
pub data OrdersAnswered : List ℕ → List Entry → List Answer → Type 0 where
  no_order : OrdersAnswered [] [] []
  can_be_read : {n : ℕ} {c : Call} {a : Answer} {ns : List ℕ} {xs : List Entry} {rest : List Answer} → reading n ≡ gives c → OrdersAnswered ns xs rest →
      OrdersAnswered (n ∷ ns) (record { call = c; answer = a } ∷ xs) (a ∷ rest)
  cannot_be_read : {n : ℕ} {ns : List ℕ} {xs : List Entry} {rest : List Answer} → reading n ≡ refuses 6 → OrdersAnswered ns xs rest →
      OrdersAnswered (n ∷ ns) xs (refused 6 ∷ rest)

-- What the order bytes `orders` came to on a plan with the tree `first`, with the plan `after` them and the lent bytes `lent` before and `written` after.
pub record Demand3OfOrders (first : Tree) (orders lent : List ℕ) (after : Plan) (written : List ℕ) : Type 0 where
  pub entries : List Entry
  pub answers : List Answer
  pub answered : OrdersAnswered (orders_of orders) entries answers
  -- two bytes for each answer, and the lent bytes beyond them as found
  pub bytes_are : written ≡ answer_bytes answers ++ drop (2 * length (orders_of orders)) lent
  -- the whole claim, of the calls that were read and of the tree of the plan that the list left, and the owner call and the sheet call, put to that plan
  pub claims : ClaimsFrom first entries (tree_of after)

-- (Ask 9, 6; Ask 10, 5) Of every list of orders that is not refused, whatever plan it is run on.
unfoldable pub FromPlanOfLists : Type 0
FromPlanOfLists =
    (first : Plan) (orders lent : List ℕ) (after : Plan) (written : List ℕ) → ListRan first orders lent None after written →
    Demand3OfOrders (tree_of first) orders lent after written

-- Demand 3 of every list of orders that is run on the empty plan and is not refused.
unfoldable pub Demand3OfLists : Type 0
Demand3OfLists =
    (orders lent : List ℕ) (after : Plan) (written : List ℕ) → ListRan empty_plan orders lent None after written →
    Demand3OfOrders nothing orders lent after written
