use Prim.Native.Nat.{◌≤◌}
use native.Mathlib.Nat.{lt_of_le_of_lt, mul-le-mul}
use native.Mathlib.Omega.{arith}
use mathlib.Core.Path.{sym}
use lib.Dec.{lit<}
use Rattle.paths.proofs.PathRange.{in_range_start, in_range_all, in_range_end, weight_too_small, edge_too_large, period_too_large, in_range_row}
use Rattle.paths.proofs.check_rows.Goals as goal

pub loop-k-init : goal.loop-k-init
loop-k-init c = in_range_start c.args.rows.now c.args.line.number

pub returns-then-w-eq0 : goal.returns-then-w-eq0
returns-then-w-eq0 c = sym (in_range_end c.loop-k.invariant c.loop-k-test.true c.weight-w.ensures c.if-w-eq0.true)

pub returns-then-w-lt2 : goal.returns-then-w-lt2
returns-then-w-lt2 c = sym (weight_too_small c.loop-k.invariant c.loop-k-test.true c.weight-w.ensures c.if-w-eq0.false (omega arith))

pub returns-then-w-edge : goal.returns-then-w-edge
returns-then-w-edge c = sym (edge_too_large c.loop-k.invariant c.loop-k-test.true c.weight-w.ensures c.if-w-eq0.false (omega arith) c.edge.ensures (omega arith))

pub overflow_mul-product : goal.overflow_mul-product
overflow_mul-product c =
    let small : c.weight-w.result ≤ 65535 = omega arith in
    record { fits = lt_of_le_of_lt (mul-le-mul c.loop-k.invariant.small small) (lit< tt) }

pub returns-then-product-gt4095 : goal.returns-then-product-gt4095
returns-then-product-gt4095 c = sym (period_too_large c.loop-k.invariant c.loop-k-test.true c.weight-w.ensures c.if-w-eq0.false (omega arith) c.edge.ensures (omega arith) (omega arith))

pub loop-k-preserved : goal.loop-k-preserved
loop-k-preserved c = in_range_row c.loop-k.invariant c.loop-k-test.true c.weight-w.ensures c.if-w-eq0.false (omega arith) c.edge.ensures (omega arith) (omega arith)

pub returns : goal.returns
returns c = sym (in_range_all c.loop-k.invariant c.loop-k-test.false)
