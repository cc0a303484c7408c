-- What the functions of this crate promise of a plan record, the order bytes and the lent answer bytes.
-- Assumes nothing.
use Rattle.std.specs.Prelude.{ℕ, ◌*◌, ◌≤◌, ◌≡◌, Bool, true, List, ◌++◌, length, drop, if◌then◌else◌, Option, None, Some, Result, Ok, Err}
use Rattle.tree.specs.declared.Plan.{Plan}
use Rattle.tree.specs.declared.Start.{Start}
use Rattle.tree.specs.declared.refusal.Refusal.{Refusal}
use Rattle.tree.specs.Tree.{Tree}
use Rattle.tree.specs.Calls.{Answer, booked, done, refused}
use Rattle.tree.specs.Answered.{number_of}
use Rattle.tree.specs.Record.{legal, tree_of, record_of}
use Rattle.bridge.specs.Rows.{tree_of_rows, LegalWith}
use Rattle.lists.specs.Lists.{order_answer, order_after, orders_of, list_answers, list_after, answer_bytes, some_carried, list_refusal}

-- document 01's answer for what running an order gives: the start of a line that was opened, nothing of one that was closed, or a refusal
unfoldable pub answer_in : Result (Option Start) Refusal → Answer
answer_in (Ok (Some s)) = booked s.0
answer_in (Ok None) = done
answer_in (Err r) = refused (number_of r)

-- one order ran on a legal record: it gave the order's answer and left the record of the order's tree
pub record OrderRan (n : ℕ) (before after : List ℕ) (a : Answer) : Type 0 where
  pub answer_is : a ≡ order_answer n (tree_of_rows before)
  pub rows_are : LegalWith after (order_after n (tree_of_rows before))

-- a list that passes its checks on a legal record
pub record Runnable (rows orders answers : List ℕ) (count : ℕ) : Type 0 where
  pub is_legal : legal rows ≡ true
  pub in_threes : length orders ≡ 3 * count
  pub not_long : length orders ≤ 65535
  pub has_room : 2 * count ≤ length answers

-- the bytes of the answers, and beyond them the lent bytes as found
unfoldable pub bytes_after : Tree → List ℕ → List ℕ → List ℕ
bytes_after t ns lent = answer_bytes (list_answers t ns) ++ drop (2 * length ns) lent

-- all orders ran on a legal record: what they left in the record and in the lent bytes, and whether any was carried out
pub record OrdersRan (ns before after lent written : List ℕ) (any : Bool) : Type 0 where
  pub rows_are : LegalWith after (list_after (tree_of_rows before) ns)
  pub bytes_are : written ≡ bytes_after (tree_of_rows before) ns lent
  pub any_is : any ≡ some_carried (list_answers (tree_of_rows before) ns)

-- (Orders, 4, 5, 6) The plan after a list that is not refused: the record of the tree that it leaves, or the record as found where nothing was carried out.
unfoldable pub plan_run : Plan → List ℕ → Plan
plan_run plan ns = if some_carried (list_answers (tree_of plan) ns) then record_of (list_after (tree_of plan) ns) else plan

-- a list that passes its checks ran on a plan
pub record CheckedRan (plan : Plan) (orders lent : List ℕ) (after : Plan) (written : List ℕ) : Type 0 where
  pub plan_is : after ≡ plan_run plan (orders_of orders)
  pub bytes_are : written ≡ bytes_after (tree_of plan) (orders_of orders) lent

unfoldable pub plan_after_list : Option ℕ → Plan → List ℕ → Plan
plan_after_list (Some n) plan orders = plan
plan_after_list None plan orders = plan_run plan (orders_of orders)

unfoldable pub bytes_after_list : Option ℕ → Plan → List ℕ → List ℕ → List ℕ
bytes_after_list (Some n) plan orders lent = lent
bytes_after_list None plan orders lent = bytes_after (tree_of plan) (orders_of orders) lent

-- A list ran: its answer, the plan after it and the lent bytes are those of the rules. A refused list changes nothing.
pub record ListRan (plan : Plan) (orders lent : List ℕ) (refused_with : Option ℕ) (after : Plan) (written : List ℕ) : Type 0 where
  pub refusal_is : refused_with ≡ list_refusal (length orders) (length lent)
  pub plan_is : after ≡ plan_after_list (list_refusal (length orders) (length lent)) plan orders
  pub bytes_are : written ≡ bytes_after_list (list_refusal (length orders) (length lent)) plan orders lent
