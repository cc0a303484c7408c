use native.Mathlib.Omega.{arith}
use native.Mathlib.Nat.{le_refl}
use mathlib.Core.Path.{sym}
use Rattle.paths.proofs.SameNode.{same_way_start, level_reached, first_ends_above, second_ends_above, first_path_ended, second_path_ended, both_go_on, ways_differ, same_way_more}
use Rattle.paths.proofs.same_node.Goals as goal

pub returns-then-weight-eq0 : goal.returns-then-weight-eq0
returns-then-weight-eq0 c = sym (second_ends_above _ _ _ _ c.weight.ensures c.if-weight-eq0.true)

pub returns-then-weight-eq0-2 : goal.returns-then-weight-eq0-2
returns-then-weight-eq0-2 c = sym (first_ends_above _ _ _ _ c.weight-2.ensures c.if-weight-eq0-2.true)

pub loop-k-init : goal.loop-k-init
loop-k-init c = same_way_start _ _ _ _

pub returns-then-edge : goal.returns-then-edge
returns-then-edge c = sym (ways_differ c.loop-k.invariant (omega arith) c.loop-k-test.true c.edge.ensures c.edge-in-loop-k.ensures c.if-edge.true)

pub returns-then-weight-eq0-3 : goal.returns-then-weight-eq0-3
returns-then-weight-eq0-3 c = sym (first_path_ended c.loop-k.invariant (omega arith) c.weight-in-loop-k.ensures c.if-weight-eq0-3.true)

pub returns-then-weight-eq0-4 : goal.returns-then-weight-eq0-4
returns-then-weight-eq0-4 c = sym (second_path_ended c.loop-k.invariant (omega arith) c.weight-in-loop-k-2.ensures c.if-weight-eq0-4.true)

pub loop-k-preserved : goal.loop-k-preserved
loop-k-preserved c = same_way_more c.loop-k.invariant (omega (arith, c.loop-k-test.true, c.requires)) c.loop-k-test.true c.edge.ensures c.edge-in-loop-k.ensures c.weight-in-loop-k.ensures c.weight-in-loop-k-2.ensures c.if-weight-eq0-3.false c.if-weight-eq0-4.false c.if-edge.false

pub returns : goal.returns
returns c = sym (both_go_on (level_reached c.loop-k.invariant c.loop-k-test.false) (omega arith) c.weight-2.ensures c.weight.ensures c.if-weight-eq0-2.false c.if-weight-eq0.false (le_refl _))
