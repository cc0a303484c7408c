-- `candidates::free_class` meets its contract. The outer invariant: every class passed has a present edge (`Classes`). The inner one: of the class at hand no edge passed is marked (`EdgesOfClass`).
-- Assumes nothing.
use Rattle.candidates.proofs.FreeClass.{Classes, EdgesOfClass}
use Rattle.candidates.proofs.free_class.Given as goal

abbrev pub invariant-loop-e : goal.invariant-loop-e
invariant-loop-e l = EdgesOfClass l.present l.d l.class l.e

abbrev pub invariant-classes : goal.invariant-classes
invariant-classes l = Classes l.lines.record.rows.now l.fn.node.line.number l.fn.node.level l.d l.class
