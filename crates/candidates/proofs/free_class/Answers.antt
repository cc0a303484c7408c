use Prim.Native.Nat.{ℕ, ◌+◌, ◌≤◌}
use native.Mathlib.Omega.{arith}
use mathlib.Core.Path.{sym}
use Rattle.paths.proofs.AllBelow.{so_far_none}
use Rattle.paths.proofs.PathRows.{within_path, weight_read}
use Rattle.candidates.proofs.PresentEdges.{node_weight_small}
use Rattle.candidates.proofs.FreeClass.{EdgesOfClass, edges_start, edges_more, class_passed, class_free, no_class_free}
use Rattle.candidates.proofs.free_class.Goals as goal
use Rattle.candidates.proofs.free_class.Goals.{else-loop-e-test, then-loop-e-test+else-is_marked+else-e-step-w}

pub weight-w-requires : goal.weight-w-requires
weight-w-requires c = within_path _ _ c.requires.on_path

pub classes-init : goal.classes-init
classes-init c = so_far_none _ _

pub loop-e-init : goal.loop-e-init
loop-e-init c = edges_start _ _ _

pub is_marked-requires : goal.is_marked-requires
is_marked-requires c = omega (arith, c.loop-e-test.true, node_weight_small c.requires c.args.lines.record.is_legal c.args.node.line.below_64, weight_read _ _ c.requires.on_path c.weight-w.ensures)

pub classes-preserved : goal.classes-preserved
classes-preserved c = class_passed _ _ _ c.mark_present.ensures c.loop-e.invariant c.classes.invariant c.classes-test.true (sym c.if-is_marked.ensures)

pub loop-e-preserved : goal.loop-e-preserved
loop-e-preserved c = edges_more c.loop-e.invariant (sym c.if-is_marked.ensures)

pub returns-in-classes : goal.returns-in-classes
returns-in-classes c =
    let weight_is = weight_read _ _ c.requires.on_path c.weight-w.ensures in
    let free = λ (e : ℕ) (edges : EdgesOfClass c.mark_present.new.marks c.args.d c.classes.class e) (past : c.weight-w.result ≤ e). sym (class_free _ _ _ c.mark_present.ensures edges c.classes.invariant c.classes-test.true c.requires c.args.lines.record.is_legal (rw weight_is past)) in
    elim c.loop-e-test.branch [
      | else-loop-e-test w ↦ free c.loop-e.e c.loop-e.invariant w.loop-e-test.false
      | then-loop-e-test+else-is_marked+else-e-step-w w ↦
          free (c.loop-e.e + c.args.d) (edges_more c.loop-e.invariant (sym w.if-is_marked.ensures)) (omega arith)
    ]

pub returns : goal.returns
returns c = sym (no_class_free _ _ _ c.classes.invariant c.classes-test.false)
