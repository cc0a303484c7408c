-- `candidates::spot_at` meets its contract: a class is free, or there is no candidate.
-- Assumes nothing.
use native.Mathlib.Omega.{arith}
use mathlib.Core.Path.{sym}
use Rattle.paths.proofs.PathRows.{within_path}
use Rattle.candidates.proofs.NodeNumbers.{carried, step_positive, offered}
use Rattle.candidates.proofs.Spots.{start_small}
use Rattle.candidates.proofs.spot_at.Goals as goal

pub weight-w-requires : goal.weight-w-requires
weight-w-requires c = omega (arith, within_path _ _ c.requires.node_of.on_path)

pub nonzero_div-period : goal.nonzero_div-period
nonzero_div-period c = step_positive _ c.requires.node_of c.args.lines.record.is_legal c.args.node.line.below_64

pub returns-in_err-class : goal.returns-in_err-class
returns-in_err-class c =
    rw (c.from_residual.ensures, offered _ c.requires.node_of _ c.requires.step_divides c.weight-w.ensures c.gcd-divisor.ensures, ← c.in_err-class.ensures)

pub invariant_of-result : goal.invariant_of-result
invariant_of-result c = record {
  start_in_range = start_small c.args.lines.record.is_legal c.args.node.line.below_64 c.requires.node_of.on_path (carried _ c.requires.node_of) _ c.weight-w.ensures c.gcd-divisor.ensures (sym c.in_ok-class.ensures);
}

pub returns : goal.returns
returns c =
    rw (offered _ c.requires.node_of _ c.requires.step_divides c.weight-w.ensures c.gcd-divisor.ensures, ← c.in_ok-class.ensures)
