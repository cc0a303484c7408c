use mathlib.Core.Path.{sym}
use Rattle.paths.proofs.PathsPart.{alike_start, both_ended, first_ended, other_node, other_edge, same_edge}
use Rattle.paths.proofs.parts.Goals as goal

pub loop-k-init : goal.loop-k-init
loop-k-init c = alike_start c.args.rows.now c.args.a.number c.args.b.number

pub returns-then-w-eq0 : goal.returns-then-w-eq0
returns-then-w-eq0 c = sym (first_ended c.loop-k.invariant c.loop-k-test.true c.weight-w.ensures c.if-w-eq0.true)

pub returns-then-weight-w : goal.returns-then-weight-w
returns-then-weight-w c = sym (other_node c.loop-k.invariant c.loop-k-test.true c.weight-w.ensures c.if-w-eq0.false c.weight.ensures c.if-weight-w.true)

pub returns-then-edge : goal.returns-then-edge
returns-then-edge c = sym (other_edge c.loop-k.invariant c.loop-k-test.true c.weight-w.ensures c.if-w-eq0.false c.weight.ensures c.if-weight-w.false c.edge.ensures c.edge-in-loop-k.ensures c.if-edge.true)

pub loop-k-preserved : goal.loop-k-preserved
loop-k-preserved c = same_edge c.loop-k.invariant c.loop-k-test.true c.weight-w.ensures c.if-w-eq0.false c.weight.ensures c.if-weight-w.false c.edge.ensures c.edge-in-loop-k.ensures c.if-edge.false

pub returns : goal.returns
returns c = sym (both_ended c.loop-k.invariant c.loop-k-test.false)
