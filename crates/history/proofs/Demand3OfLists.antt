-- Demand 3 of a list of orders run on a plan (specs/OrdersRun.antt): the orders that can be read have the answers and the tree of the rules.
-- Assumes nothing.
use Rattle.std.specs.Prelude.{if◌then◌else◌}
use Prim.Native.Nat.{ℕ}
use native.Mathlib.Omega.{arith}
use mathlib.Core.Path.{◌≡◌, refl, sym, ◌∙◌, ap}
use mathlib.Core.Bool.{Bool, true, false}
use mathlib.Core.List.{List, [], ◌∷◌}
use Rattle.tree.specs.declared.Plan.{Plan}
use Rattle.tree.specs.Tree.{Tree}
use Rattle.tree.specs.Shape.{Legal}
use Rattle.tree.specs.Calls.{Call, answer, after, Outcome, gives, refuses}
use Rattle.tree.specs.Lists.{ledger_of_tree, Entry, calls_of, reference_from, answered_from}
use Rattle.tree.specs.Demand3.{Demand3From}
use Rattle.tree.specs.Record.{tree_of, record_of}
use Rattle.tree.proofs.Agreement.{agree_of_tree, agree_along}
use Rattle.bridge.proofs.TreeOfRecord.{tree_of_legal}
use Rattle.bridge.proofs.RecordRoundTrip.{record_has_tree}
use Rattle.orders.specs.Reading.{reading}
use Rattle.orders.proofs.ReadingChecks.{readable_is_read, unreadable_is_refused}
use Rattle.lists.specs.Lists.{answer_read, after_read, order_answer, order_after, orders_of, list_answers, list_after, some_carried}
use Rattle.lists.specs.Runs.{bytes_after, plan_run, plan_after_list, bytes_after_list}
use Rattle.lists.proofs.TreeLeftAlone.{list_left_alone}
use Rattle.plan.specs.Meets.{empty_plan}
use Rattle.plan.proofs.Changes.{empty_tree}
use Rattle.history.specs.OrdersRun.{OrdersAnswered, no_order, can_be_read, cannot_be_read, FromPlanOfLists, Demand3OfLists}
use Rattle.history.proofs.Demand3OfCalls.{ByTheRules, rules_demand_3}
use Rattle.history.proofs.FromPlan.{demand_3_claims}

-- The orders that can be read

refused_with_6 : (n k : ℕ) → reading n ≡ refuses k → k ≡ 6
refused_with_6 n k refused =
    let six = unreadable_is_refused n (λ readable. let read = readable_is_read n readable in let z : ◌≡◌ {A = ℕ} 0 1 = cc in omega arith) in
    cc

-- what the orders of a list come to on a tree: their answers and the tree after them are those of the calls that were read
record OrdersByTheRules (ns : List ℕ) (t : Tree) : Type 0 where
  pub entries : List Entry
  pub answered : OrdersAnswered ns entries (list_answers t ns)
  pub rules : ByTheRules t entries (list_after t ns)

orders_by_the_rules : (ns : List ℕ) (t : Tree) → OrdersByTheRules ns t
unfolding list_answers list_after order_answer order_after answer_read after_read calls_of answered_from reference_from
orders_by_the_rules [] t = record { entries = []; answered = no_order; rules = record { answers = refl; tree = refl } }
orders_by_the_rules (n ∷ ns) t = by_reading (λ s. orders_by_the_rules ns s) (reading n) refl
  where
    by_reading : ((s : Tree) → OrdersByTheRules ns s) → (o : Outcome Call) → reading n ≡ o → OrdersByTheRules (n ∷ ns) t
    by_reading those_behind (gives c) read =
        let later = those_behind (after c t) in
        let x : Entry = record { call = c; answer = answer c t } in
        record {
          entries = x ∷ later.entries;
          answered = rw read (can_be_read read later.answered);
          rules = rw read (record { answers = ap (◌∷◌ x) later.rules.answers; tree = later.rules.tree });
        }
    by_reading those_behind (refuses k) unread =
        let six = refused_with_6 n k unread in
        let later = those_behind t in
        record {
          entries = later.entries;
          answered = rw (unread, six) (cannot_be_read (rw six at unread) later.answered);
          rules = rw unread later.rules;
        }

-- The plan after a list

-- the plan that a list leaves has the tree that the rules leave
run_tree : (plan : Plan) (ns : List ℕ) → Legal (list_after (tree_of plan) ns) → tree_of (plan_run plan ns) ≡ list_after (tree_of plan) ns
unfolding plan_run
run_tree plan ns legal = by_test (some_carried (list_answers (tree_of plan) ns)) refl
  where
    by_test : (b : Bool) → some_carried (list_answers (tree_of plan) ns) ≡ b → tree_of (if b then record_of (list_after (tree_of plan) ns) else plan) ≡ list_after (tree_of plan) ns
    by_test true e = record_has_tree (list_after (tree_of plan) ns) legal
    by_test false e = sym (list_left_alone ns (tree_of plan) e)

-- Demand 3

pub from_plan_of_lists : FromPlanOfLists
unfolding FromPlanOfLists plan_after_list bytes_after_list bytes_after
from_plan_of_lists first orders lent left written ran =
    record {
      entries = run.entries;
      answers = list_answers t ns;
      answered = run.answered;
      bytes_are = rw (sym ran.refusal_is) at ran.bytes_are;
      claims = demand_3_claims t run.entries (tree_of left) (tree_of_legal left) claim;
    }
  where
    ns : List ℕ
    ns = orders_of orders

    t : Tree
    t = tree_of first

    run : OrdersByTheRules ns t
    run = orders_by_the_rules ns t

    legal : Legal (list_after t ns)
    legal = rw run.rules.tree (agree_along (calls_of run.entries) (ledger_of_tree t) t (agree_of_tree t (tree_of_legal first))).legal

    plan_is : left ≡ plan_run first ns
    plan_is = rw (sym ran.refusal_is) at ran.plan_is

    claim : Demand3From t run.entries (tree_of left)
    claim = rw (ap tree_of plan_is ∙ run_tree first ns legal) (rules_demand_3 t (tree_of_legal first) run.entries (list_after t ns) run.rules)

pub demand_3_of_lists : Demand3OfLists
unfolding Demand3OfLists FromPlanOfLists
demand_3_of_lists orders lent left written ran = rw empty_tree at (from_plan_of_lists empty_plan orders lent left written ran)
