-- Demand 3 of lists that begin at any plan (specs/FromPlan.antt): by value, on a lent record, and of the library.
-- Assumes nothing.
use mathlib.Core.List.{List}
use Rattle.tree.specs.Tree.{Tree}
use Rattle.tree.specs.Shape.{Legal}
use Rattle.tree.specs.Lists.{Entry}
use Rattle.tree.specs.Demand3.{Demand3From}
use Rattle.tree.specs.Record.{tree_of}
use Rattle.bridge.specs.Rows.{tree_of_rows}
use Rattle.bridge.proofs.TreeOfRecord.{tree_of_legal}
use Rattle.history.specs.FromPlan.{ClaimsFrom, FromPlanOfCalls, FromPlanOfRows, FromPlanOfLibrary}
use Rattle.history.specs.RanInLibrary.{entries_told}
use Rattle.history.proofs.Demand3OfCalls.{demand_3_from_plan, demand_3_names_owner}
use Rattle.history.proofs.Demand3OfRows.{ran_by_value}
use Rattle.history.proofs.RestOfCalls.{demand_3_tells_rest}
use Rattle.history.proofs.Demand3OfLibrary.{ran_on_rows, number_names_owner, number_tells_rest}
use Rattle.history.proofs.SheetOfCalls.{demand_3_sheet, numbers_for_sheet}

-- where demand 3 holds, owner, rest and sheet are those of the ledger
pub demand_3_claims : (first : Tree) (entries : List Entry) (t : Tree) → Legal t → Demand3From first entries t → ClaimsFrom first entries t
demand_3_claims first entries t is_legal claim =
    record {
      demand_3 = claim;
      owner_named = demand_3_names_owner first entries t claim;
      rest_told = demand_3_tells_rest first entries t is_legal claim;
      sheet_for = demand_3_sheet first entries t is_legal claim;
    }

pub from_plan_of_calls : FromPlanOfCalls
unfolding FromPlanOfCalls
from_plan_of_calls entries first last ran =
    demand_3_claims (tree_of first) entries (tree_of last) (tree_of_legal last) (demand_3_from_plan entries first last ran)

pub from_plan_of_rows : FromPlanOfRows
unfolding FromPlanOfRows FromPlanOfCalls tree_of_rows
from_plan_of_rows entries first last ran =
    from_plan_of_calls entries (record { rows = first }) (record { rows = last }) (ran_by_value entries first last ran)

pub from_plan_of_library : FromPlanOfLibrary
unfolding FromPlanOfLibrary FromPlanOfRows
from_plan_of_library calls first last ran =
    let entries = entries_told calls in
    let claim = (from_plan_of_rows entries first last (ran_on_rows calls first last ran)).demand_3 in
    record {
      demand_3 = claim;
      owner_named = number_names_owner (tree_of_rows first) entries last claim;
      rest_told = number_tells_rest (tree_of_rows first) entries last claim;
      sheet_for = numbers_for_sheet (tree_of_rows first) entries last claim;
    }
