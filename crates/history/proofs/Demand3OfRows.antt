-- Demand 3 of the calls on a lent record (specs/RanOnRows.antt): a list that was run on a record was run on the plan with that record, by value.
-- Assumes nothing.
use Prim.Native.Nat.{ℕ}
use mathlib.Core.List.{List, [], ◌∷◌}
use Rattle.tree.specs.declared.Plan.{Plan}
use Rattle.tree.specs.Lists.{Entry}
use Rattle.bridge.specs.Rows.{tree_of_rows}
use Rattle.plan.specs.Meets.{empty_plan}
use Rattle.plan.proofs.Changes.{carried_meets}
use Rattle.history.specs.Ran.{Ran, Demand3OfCalls, OwnerOfCalls}
use Rattle.history.specs.RanOnRows.{RanOnRows, Demand3OfRows, OwnerOfRows}
use Rattle.history.proofs.Demand3OfCalls.{returned_is_handed_on, demand_3_of_calls, owner_of_calls}

pub ran_by_value : (entries : List Entry) (first last : List ℕ) → RanOnRows first entries last → Ran (record { rows = first }) entries (record { rows = last })
unfolding Ran RanOnRows
ran_by_value [] first last ran = λ i. record { rows = ran i }
ran_by_value (x ∷ xs) first last ran =
    let returned : Plan = record { rows = ran.0 } in
    let meets = carried_meets x.call (record { rows = first }) ran.0 x.answer ran.1 in
    let handed = returned_is_handed_on x.call (record { rows = first }) x.answer returned meets in
    (returned, meets, rw handed (ran_by_value xs ran.0 last ran.2))

pub demand_3_of_rows : Demand3OfRows
unfolding Demand3OfRows Demand3OfCalls tree_of_rows
demand_3_of_rows entries rows ran = demand_3_of_calls entries (record { rows = rows }) (ran_by_value entries empty_plan.rows rows ran)

pub owner_of_rows : OwnerOfRows
unfolding OwnerOfRows OwnerOfCalls tree_of_rows
owner_of_rows entries rows ran = owner_of_calls entries (record { rows = rows }) (ran_by_value entries empty_plan.rows rows ran)
