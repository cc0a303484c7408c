use native.Mathlib.Omega.{arith}
use mathlib.Core.Path.{sym}
use borrow.Author.Tests.{eq-eqb, ne_eqb}
use Rattle.tree.specs.Numbers.{divides}
use Rattle.paths.proofs.PathRest.{path_length_at_most_11}
use Rattle.candidates.proofs.PathSearch.{search_from_root, path_at_end, still_reached, offset_too_large, step_too_far, path_search_more, path_step_positive, next_offset_small, next_step_small}
use Rattle.candidates.proofs.best_on_path.Goals as goal

pub loop-level-init : goal.loop-level-init
loop-level-init c = search_from_root _ _ _ c.requires

pub returns-then-starts_by : goal.returns-then-starts_by
returns-then-starts_by c = offset_too_large c.loop-level.invariant (sym c.if-starts_by.ensures)

pub nonzero_rem-period : goal.nonzero_rem-period
nonzero_rem-period c = path_step_positive c.loop-level.invariant c.args.lines.record.is_legal c.args.line.below_64

pub returns-then-period-step-ne0 : goal.returns-then-period-step-ne0
unfolding divides
returns-then-period-step-ne0 c = step_too_far c.loop-level.invariant (ne_eqb _ _ c.if-period-step-ne0.true)

pub look_at-best-requires-clause-reached : goal.look_at-best-requires-clause-reached
unfolding divides
look_at-best-requires-clause-reached c = still_reached c.loop-level.invariant (eq-eqb _ _ c.if-period-step-ne0.false) (sym c.if-starts_by.ensures)

pub edge-requires : goal.edge-requires
edge-requires c = omega (arith, path_length_at_most_11 c.args.lines.record.rows.now c.args.line.number)

pub overflow_mul-offset : goal.overflow_mul-offset
overflow_mul-offset c = omega (arith, next_offset_small c.loop-level.invariant c.args.lines.record.is_legal c.args.line.below_64 (omega arith) c.edge.ensures)

pub overflow_add-offset : goal.overflow_add-offset
overflow_add-offset c = omega (arith, next_offset_small c.loop-level.invariant c.args.lines.record.is_legal c.args.line.below_64 (omega arith) c.edge.ensures)

pub weight-step-requires : goal.weight-step-requires
weight-step-requires c = omega (arith, path_length_at_most_11 c.args.lines.record.rows.now c.args.line.number)

pub overflow_mul-step : goal.overflow_mul-step
overflow_mul-step c = omega (arith, next_step_small c.loop-level.invariant c.args.lines.record.is_legal c.args.line.below_64 (omega arith) c.weight-step.ensures)

pub loop-level-preserved : goal.loop-level-preserved
loop-level-preserved c = path_search_more c.loop-level.invariant (omega arith) c.edge.ensures c.weight-step.ensures c.look_at-best.ensures

pub returns : goal.returns
returns c = path_at_end c.loop-level.invariant (omega arith)
