use Prim.Native.Nat.{◌+◌, ◌*◌, ◌≤◌}
use native.Mathlib.Omega.{arith}
use native.Mathlib.Nat.{le-mul_of_pos_right}
use mathlib.Core.Path.{ap}
use Rattle.tree.specs.declared.Row.{Row}
use Rattle.paths.proofs.PathRest.{path_length_at_most_11}
use Rattle.paths.proofs.PathRows.{path_ends, path_goes_on}
use Rattle.paths.proofs.PathNumbers.{Carried, carried_start, carried_row, carried_all, carried_below, carried_small}
use Rattle.asking.proofs.times_of.Goals as goal
use Rattle.asking.proofs.times_of.Goals.{Else-row-eq0, else-loop-k-test, then-loop-k-test+then-row-eq0}

-- One row more of the path was read.
with_row : (c : Else-row-eq0) → Carried c.args.tree.rows.now c.args.line.number (c.loop-k.product * c.row-row.result.weight) (c.loop-k.sum + c.row-row.result.edge * c.loop-k.product) (c.loop-k.k + 1)
with_row c =
    let weight_is = ap (λ (r : Row). r.weight) c.row-row.ensures in
    carried_row c.loop-k.invariant (path_goes_on _ _ c.loop-k.invariant.within c.loop-k-test.true weight_is c.if-row-eq0.false) (ap (λ (r : Row). r.edge) c.row-row.ensures) weight_is

-- The edge alone is in range too: so a version that adds it without the step is refused for its answer.
in_range : (c : Else-row-eq0) → (c.loop-k.product * c.row-row.result.weight ≤ 4095) × (c.loop-k.sum + c.row-row.result.edge * c.loop-k.product ≤ 4095) × (c.row-row.result.edge ≤ c.row-row.result.edge * c.loop-k.product)
in_range c =
    let small = carried_small (with_row c) c.args.tree.is_legal c.args.line.below_64 in
    let positive = carried_below c.loop-k.invariant c.args.tree.is_legal c.args.line.below_64 in
    (small.0, small.1, le-mul_of_pos_right c.row-row.result.edge (omega (arith, positive)))

pub loop-k-init : goal.loop-k-init
loop-k-init c = carried_start _ _

pub overflow_mul-sum : goal.overflow_mul-sum
overflow_mul-sum c = omega (arith, in_range (goal.at.overflow_mul-sum c).Else-row-eq0)

pub overflow_add-sum : goal.overflow_add-sum
overflow_add-sum c = omega (arith, in_range (goal.at.overflow_add-sum c).Else-row-eq0)

pub overflow_mul-product : goal.overflow_mul-product
overflow_mul-product c = omega (arith, in_range (goal.at.overflow_mul-product c).Else-row-eq0)

pub loop-k-preserved : goal.loop-k-preserved
loop-k-preserved c = with_row (goal.at.loop-k-preserved c).Else-row-eq0

pub invariant_of-result : goal.invariant_of-result
invariant_of-result c = record { start_below_period = carried_below c.loop-k.invariant c.args.tree.is_legal c.args.line.below_64 }

pub returns : goal.returns
returns c =
    elim c.loop-k-test.branch [
      | else-loop-k-test w ↦ carried_all c.loop-k.invariant (omega (arith, path_length_at_most_11 c.args.tree.rows.now c.args.line.number))
      | then-loop-k-test+then-row-eq0 w ↦ carried_all c.loop-k.invariant (path_ends _ _ c.loop-k.invariant.within w.loop-k-test.true (ap (λ (r : Row). r.weight) w.row-row.ensures) w.if-row-eq0.true)
    ]
