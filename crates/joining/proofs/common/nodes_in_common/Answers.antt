use native.Mathlib.Omega.{arith}
use mathlib.Core.Path.{refl}
use Rattle.joining.proofs.NodesInCommon.{counted_none, counted_more, counted_to_end, counted_to_last, all_counted}
use Rattle.joining.proofs.common.nodes_in_common.Goals as goal

pub loop-k-init : goal.loop-k-init
loop-k-init c = counted_none _ _ _ _

pub returns-then-row-eq0 : goal.returns-then-row-eq0
returns-then-row-eq0 c = counted_to_end c.loop-k.invariant c.requires c.loop-k-test.true c.row-row.ensures c.if-row-eq0.true

pub returns-then-row-path : goal.returns-then-row-path
returns-then-row-path c =
    counted_to_last c.loop-k.invariant c.requires c.loop-k-test.true c.row-row.ensures (omega (arith, c.requires, c.told-path)) c.if-row-eq0.false refl c.if-row-path.true

pub loop-k-preserved : goal.loop-k-preserved
loop-k-preserved c =
    counted_more c.loop-k.invariant c.requires c.loop-k-test.true c.row-row.ensures (omega (arith, c.requires, c.told-path)) c.if-row-eq0.false refl c.if-row-path.false

pub returns : goal.returns
returns c = all_counted c.loop-k.invariant (omega (arith, c.requires, c.told-path)) c.loop-k-test.false
