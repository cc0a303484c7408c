use native.Mathlib.Omega.{arith}
use native.Mathlib.Nat.{mod-lt}
use mir.Syntax.{w16}
use borrow.Author.Rules.{Fits-under}
use Rattle.trials.proofs.ClassesTaken.{counting_start, counting_apart, counting_met, counting_new, counting_all, count_small}
use Rattle.trials.proofs.classes_taken.Goals as goal

pub loop-number-init : goal.loop-number-init
loop-number-init c = counting_start _ _ _ _

pub loop-number-preserved-then-not-same_node : goal.loop-number-preserved-then-not-same_node
loop-number-preserved-then-not-same_node c = counting_apart _ _ _ _ c.loop-number.invariant c.loop-number-test.true c.same_node.ensures c.if-not-same_node.true

pub overflow_cast-class : goal.overflow_cast-class
overflow_cast-class c = omega (arith, mod-lt c.edge.result c.requires.divisor.0, c.requires.divisor.1)

pub is_marked-requires : goal.is_marked-requires
is_marked-requires c = omega (arith, mod-lt c.edge.result c.requires.divisor.0, c.requires.divisor.1)

pub loop-number-preserved-then-is_marked : goal.loop-number-preserved-then-is_marked
loop-number-preserved-then-is_marked c = counting_met _ _ _ _ c.loop-number.invariant c.loop-number-test.true c.same_node.ensures c.if-not-same_node.false c.edge.ensures c.requires.divisor.0 c.is_marked.ensures c.if-is_marked.true

pub mark-requires : goal.mark-requires
mark-requires c = omega (arith, mod-lt c.edge.result c.requires.divisor.0, c.requires.divisor.1)

pub overflow_add-count : goal.overflow_add-count
overflow_add-count c = Fits-under w16 _ 4097 (omega (arith, count_small _ _ _ _ c.loop-number.invariant, c.requires.divisor.1)) tt

pub loop-number-preserved : goal.loop-number-preserved
loop-number-preserved c = counting_new _ _ _ _ c.loop-number.invariant c.loop-number-test.true c.same_node.ensures c.if-not-same_node.false c.edge.ensures c.requires.divisor.0 c.is_marked.ensures c.requires.divisor.1 c.if-is_marked.false c.mark.ensures

pub returns : goal.returns
returns c = counting_all _ _ _ _ c.loop-number.invariant c.loop-number-test.false
