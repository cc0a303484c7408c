-- `candidates::better` meets its contract: what starts too late is no better, and any other offer is.
-- Assumes nothing.
use native.Mathlib.Omega.{arith}
use mathlib.Core.Path.{sym}
use Rattle.candidates.proofs.NodeNumbers.{offset_and_step, past_edge_0}
use Rattle.candidates.proofs.NothingBetter.{none_no_better, starts_by_no_better, offer_no_better, offer_better}
use Rattle.paths.proofs.PathRows.{within_path}
use Rattle.paths.specs.Rules.{spot_start}
use Rattle.candidates.proofs.better.Goals as goal

pub edge-edge-requires : goal.edge-edge-requires
edge-edge-requires c = omega (arith, within_path _ _ c.requires.node_of.on_path)

pub overflow_add-node : goal.overflow_add-node
overflow_add-node c = omega (arith, offset_and_step _ c.requires.node_of c.args.lines.record.is_legal c.args.node.line.below_64)

pub returns-then-starts_by : goal.returns-then-starts_by
returns-then-starts_by c = sym (starts_by_no_better _ _ (sym c.if-starts_by.ensures) _ (past_edge_0 _ c.requires.node_of c.args.node.line.below_64 _ c.edge-edge.ensures c.if-edge-eq0.true))

pub returns-in_default : goal.returns-in_default
returns-in_default c = rw (← c.in_default.ensures) (sym (none_no_better _))

pub returns-then-starts_by-2 : goal.returns-then-starts_by-2
unfolding spot_start
returns-then-starts_by-2 c = rw (← c.in-Some.ensures) (sym (offer_no_better _ _ c.start.ensures (sym c.if-starts_by-2.ensures)))

pub returns : goal.returns
unfolding spot_start
returns c = rw (← c.in-Some.ensures) (sym (offer_better _ _ c.start.ensures (sym c.if-starts_by-2.ensures)))
