use mathlib.Core.Path.{sym}
use Rattle.paths.proofs.UnusedRows.{unused_start, unused_all, row_used, unused_more}
use Rattle.paths.proofs.rest_unused.Goals as goal

pub loop-k-init : goal.loop-k-init
loop-k-init c = unused_start c.args.rows.now c.args.line.number c.requires

pub returns-then-row_sum-ne0 : goal.returns-then-row_sum-ne0
returns-then-row_sum-ne0 c = sym (row_used c.loop-k.invariant c.loop-k-test.true c.row_sum.ensures.value c.if-row_sum-ne0.true)

pub loop-k-preserved : goal.loop-k-preserved
loop-k-preserved c = unused_more c.loop-k.invariant c.loop-k-test.true c.row_sum.ensures.value c.if-row_sum-ne0.false

pub returns : goal.returns
returns c = sym (unused_all c.loop-k.invariant c.loop-k-test.false)
