-- `candidates::look_at` meets its contract: a node that was looked at before has nothing better to offer; any other is noted, and its offer compared.
-- Assumes nothing.
use native.Mathlib.Omega.{arith}
use mathlib.Core.Path.{refl}
use Rattle.paths.proofs.PathRows.{within_path}
use Rattle.candidates.proofs.NodeNumbers.{offset_small}
use Rattle.candidates.proofs.SeenNodes.{seen_no_better, first_through, searched_before, searched_more}
use Rattle.candidates.proofs.look_at.Goals as goal

pub bounds-seen-at : goal.bounds-seen-at
bounds-seen-at c = offset_small _ c.requires.node_of c.args.lines.record.is_legal c.args.node.line.below_64

pub returns-then-node-seen : goal.returns-then-node-seen
returns-then-node-seen c =
    let no_better = seen_no_better _ c.args.lines.record.is_legal c.args.node.line.below_64 c.requires.searched c.requires.node_of.on_path c.requires.node_of.offset_is c.if-node-seen.true in
    searched_before _ c.requires.searched c.requires.node_of.on_path c.requires.node_of.offset_is no_better c.if-node-seen.true

pub overflow_cast-seen-2 : goal.overflow_cast-seen-2
overflow_cast-seen-2 c = omega (arith, within_path _ _ c.requires.node_of.on_path)

pub overflow_add-seen : goal.overflow_add-seen
overflow_add-seen c = omega (arith, within_path _ _ c.requires.node_of.on_path)

pub bounds-seen-at-2 : goal.bounds-seen-at-2
bounds-seen-at-2 c = offset_small _ c.requires.node_of c.args.lines.record.is_legal c.args.node.line.below_64

pub better-requires-clause-first : goal.better-requires-clause-first
better-requires-clause-first c =
    first_through _ c.args.lines.record.is_legal c.args.node.line.below_64 c.requires.searched c.requires.node_of.on_path c.requires.node_of.offset_is c.if-node-seen.false c.requires.reached

pub better-requires-clause-step_divides : goal.better-requires-clause-step_divides
better-requires-clause-step_divides c = rw c.requires.node_of.step_is c.requires.reached.divided

pub returns : goal.returns
returns c =
    let inside = offset_small _ c.requires.node_of c.args.lines.record.is_legal c.args.node.line.below_64 in
    searched_more _ c.requires.searched c.requires.node_of.on_path c.requires.node_of.offset_is c.better.ensures c.if-node-seen.false (omega (arith, inside, c.told-seen)) refl refl
