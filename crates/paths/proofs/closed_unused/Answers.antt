use native.Mathlib.Omega.{arith}
use mathlib.Core.Path.{sym, ap}
use lib.ListN.{length}
use Rattle.tree.specs.Record.{path_at}
use Rattle.paths.proofs.RowLaws.{no_rows_empty}
use Rattle.paths.proofs.UnusedRows.{summed_none, summed_more, summed_all}
use Rattle.paths.proofs.closed_unused.Goals as goal

pub loop-k-init : goal.loop-k-init
loop-k-init c = summed_none _ _ (ap length (no_rows_empty (path_at c.args.rows.now c.args.line.number) c.requires))

pub overflow_add-sum : goal.overflow_add-sum
overflow_add-sum c = omega (arith, c.loop-k.invariant.bounded, c.row_sum-sum.ensures.upper_bound)

pub loop-k-preserved : goal.loop-k-preserved
loop-k-preserved c = summed_more c.loop-k.invariant c.loop-k-test.true c.row_sum-sum.ensures.value c.row_sum-sum.ensures.upper_bound

pub returns : goal.returns
returns c = sym (summed_all c.loop-k.invariant c.loop-k-test.false)
