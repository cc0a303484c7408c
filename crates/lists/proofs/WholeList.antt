-- A whole list on a record: the checks, the record that the orders run on, and the record and the bytes after them.
-- Assumes nothing.
use Prim.Native.Nat.{ℕ, ◌/◌}
use native.Mathlib.Omega.{arith}
use mathlib.Core.Path.{◌≡◌, refl, sym, ◌∙◌, ap}
use mathlib.Core.Bool.{Bool, true, false}
use mathlib.Core.List.{List}
use Rattle.std.specs.Prelude.{None, Some}
use lib.ListN.{length, replicate}
use Rattle.tree.specs.declared.Plan.{Plan}
use Rattle.tree.specs.Tree.{path, path_of}
use Rattle.tree.specs.Asking.{rows_11}
use Rattle.tree.specs.Record.{legal, numbers, numbers_below, record_of}
use Rattle.bridge.specs.Rows.{plan_of, tree_of_rows, LegalWith}
use Rattle.bridge.proofs.TreeOfRecord.{tree_of_illegal}
use Rattle.bridge.proofs.RecordRoundTrip.{tree_has_record, same_tree_same_record}
use Rattle.bridge.proofs.CarriedLegal.{empty_recorded}
use Rattle.lists.specs.Lists.{orders_of, list_refusal}
use Rattle.lists.specs.Runs.{Runnable, OrdersRan, plan_run, CheckedRan, plan_after_list, bytes_after_list, ListRan}
use Rattle.lists.proofs.ListChecks.{Passed, passed}
use Rattle.lists.proofs.TreeLeftAlone.{list_left_alone}

pub list_runnable : (rows orders lent : List ℕ) → legal rows ≡ true → list_refusal (length orders) (length lent) ≡ None → Runnable rows orders lent (length orders / 3)
list_runnable rows orders lent is_legal none_refuses =
    let lengths : Passed (length orders) (length lent) = passed (length orders) (length lent) none_refuses in
    record { is_legal = is_legal; in_threes = omega arith; not_long = lengths.not_long; has_room = lengths.has_room }

-- the orders ran on a record that has the tree of the one found
module _ (found orders lent written rows after : List ℕ) (same_tree : LegalWith rows (tree_of_rows found)) where
  pub some_carried_out : length after ≡ 1408 → OrdersRan (orders_of orders) rows after lent written true → CheckedRan (plan_of found) orders lent (plan_of after) written
  unfolding plan_run tree_of_rows
  some_carried_out long ran =
      record {
        plan_is =
            rw (← same_tree.tree_is, ← ran.any_is)
            (sym (tree_has_record (plan_of after) ran.rows_are.is_legal long) ∙ ap record_of ran.rows_are.tree_is);
        bytes_are = rw (← same_tree.tree_is) ran.bytes_are;
      }

  pub none_carried_out : OrdersRan (orders_of orders) rows after lent written false → CheckedRan (plan_of found) orders lent (plan_of found) written
  unfolding plan_run tree_of_rows
  none_carried_out ran =
      record { plan_is = rw (← same_tree.tree_is, ← ran.any_is); bytes_are = rw (← same_tree.tree_is) ran.bytes_are }

-- in place, on a record that is a tree: where no order was carried out it is as found
module _ (rows after orders lent written : List ℕ) (is_legal : legal rows ≡ true) (long : length rows ≡ 1408) (long_after : length after ≡ 1408) where
  pub ran_in_place : (any : Bool) → OrdersRan (orders_of orders) rows after lent written any → CheckedRan (plan_of rows) orders lent (plan_of after) written
  unfolding tree_of_rows
  ran_in_place true ran = some_carried_out rows orders lent written rows after (record { is_legal = is_legal; tree_is = refl }) long_after ran
  ran_in_place false ran =
      rw as_found (none_carried_out rows orders lent written rows after (record { is_legal = is_legal; tree_is = refl }) ran)
    where
      as_found : plan_of after ≡ plan_of rows
      as_found =
          same_tree_same_record (plan_of after) (plan_of rows) ran.rows_are.is_legal is_legal long_after long
          (ran.rows_are.tree_is ∙ list_left_alone (orders_of orders) (tree_of_rows rows) (sym ran.any_is))

-- the record of the empty plan stands in for one that is no tree
pub empty_stands_in : (rows : List ℕ) → legal rows ≡ false → LegalWith (replicate 1408 0) (tree_of_rows rows)
unfolding tree_of_rows record_of numbers_below numbers rows_11 path_of path
empty_stands_in rows illegal = rw (tree_of_illegal (plan_of rows) illegal) empty_recorded

module _ (plan : Plan) (orders lent : List ℕ) where
  pub list_refused : (n : ℕ) → Some n ≡ list_refusal (length orders) (length lent) → ListRan plan orders lent (Some n) plan lent
  unfolding plan_after_list bytes_after_list
  list_refused n h = record { refusal_is = h; plan_is = rw (sym h); bytes_are = rw (sym h) }

  pub list_run : (after : Plan) (written : List ℕ) → None ≡ list_refusal (length orders) (length lent) → CheckedRan plan orders lent after written → ListRan plan orders lent None after written
  unfolding plan_after_list bytes_after_list
  list_run after written h ran = record { refusal_is = h; plan_is = rw (sym h) ran.plan_is; bytes_are = rw (sym h) ran.bytes_are }
