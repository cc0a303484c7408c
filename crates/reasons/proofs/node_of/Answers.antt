use native.Mathlib.Omega.{arith}
use mathlib.Core.Path.{refl}
use Rattle.paths.proofs.PathRows.{within_path}
use Rattle.paths.proofs.PathNumbers.{carried_start, carried_row, carried_small}
use Rattle.reasons.proofs.NodeFinding.{carried_node}
use Rattle.reasons.proofs.node_of.Goals as goal

pub loop-k-init : goal.loop-k-init
loop-k-init c = carried_start _ _

pub edge-requires : goal.edge-requires
edge-requires c = omega (arith, within_path _ _ c.requires)

pub overflow_mul-offset : goal.overflow_mul-offset
overflow_mul-offset c = omega (arith, (carried_small (carried_row c.loop-k.invariant (omega arith) c.edge.ensures refl) c.args.tree.is_legal c.args.line.below_64).1)

pub overflow_add-offset : goal.overflow_add-offset
overflow_add-offset c = omega (arith, (carried_small (carried_row c.loop-k.invariant (omega arith) c.edge.ensures refl) c.args.tree.is_legal c.args.line.below_64).1)

pub weight-step-requires : goal.weight-step-requires
weight-step-requires c = omega (arith, within_path _ _ c.requires)

pub overflow_mul-step : goal.overflow_mul-step
overflow_mul-step c = omega (arith, (carried_small (carried_row c.loop-k.invariant (omega arith) refl c.weight-step.ensures) c.args.tree.is_legal c.args.line.below_64).0)

pub loop-k-preserved : goal.loop-k-preserved
loop-k-preserved c = carried_row c.loop-k.invariant (omega arith) c.edge.ensures c.weight-step.ensures

pub returns-clause-numbers : goal.returns-clause-numbers
returns-clause-numbers c = carried_node _ c.loop-k.invariant (omega arith) c.requires
