use native.Mathlib.Omega.{arith}
use Rattle.paths.proofs.PathLength.{passed_none, passed_row, passed_path, passed_all}
use Rattle.paths.proofs.path_length.Goals as goal

pub loop-count-init : goal.loop-count-init
loop-count-init c = passed_none c.args.rows.now c.args.line.number

pub returns-then-weight-eq0 : goal.returns-then-weight-eq0
returns-then-weight-eq0 c = passed_path c.loop-count.invariant (omega arith) c.weight.ensures c.if-weight-eq0.true

pub loop-count-preserved : goal.loop-count-preserved
loop-count-preserved c = passed_row c.loop-count.invariant (omega arith) c.weight.ensures c.if-weight-eq0.false

pub returns : goal.returns
returns c = passed_all c.loop-count.invariant (omega arith)
