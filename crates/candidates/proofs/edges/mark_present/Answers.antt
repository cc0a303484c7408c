use Prim.Native.Nat.{◌<◌}
use native.Mathlib.Omega.{arith}
use mathlib.Core.Path.{sym}
use Rattle.paths.proofs.PathRows.{within_path}
use Rattle.candidates.proofs.PresentEdges.{marking_start, marking_apart, marking_through, marking_all, edge_small}
use Rattle.candidates.proofs.edges.mark_present.Goals as goal
use Rattle.candidates.proofs.edges.mark_present.Goals.{then-same_node, else-same_node}

pub loop-number-init : goal.loop-number-init
loop-number-init c = rw c.requires.none_marked (marking_start c.requires.first c.args.node.line.below_64)

pub same_node-requires : goal.same_node-requires
same_node-requires c = within_path _ _ c.requires.first.on_path

pub edge-requires : goal.edge-requires
edge-requires c = within_path _ _ c.requires.first.on_path

-- the edge that was read is one of the node's, and so below 4,096
pub mark-requires : goal.mark-requires
mark-requires c = edge_small c.loop-number.invariant (omega (arith, c.loop-number-test.true)) (sym c.if-same_node.ensures) c.edge.ensures c.requires.first c.args.lines.record.is_legal c.args.node.line.below_64

pub loop-number-preserved : goal.loop-number-preserved
loop-number-preserved c =
    let below : c.loop-number.number < 64 = omega (arith, c.loop-number-test.true) in
    elim c.if-same_node.branch [
      | then-same_node w ↦
          rw w.marks-is (marking_through c.loop-number.invariant below (sym w.if-same_node.ensures) w.edge.ensures c.requires.first c.args.lines.record.is_legal c.args.node.line.below_64 w.mark.ensures)
      | else-same_node w ↦ rw w.marks-is (marking_apart c.loop-number.invariant below (sym w.if-same_node.ensures))
    ]

pub returns : goal.returns
returns c = marking_all c.args.lines.closed_from c.loop-number.invariant c.loop-number-test.false
