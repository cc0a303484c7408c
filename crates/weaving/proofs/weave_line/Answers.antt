use native.Mathlib.Omega.{arith}
use mathlib.Core.Path.{sym, ◌∙◌, ap}
use lib.ListN.{length}
use Rattle.paths.proofs.PathRows.{row_in_path}
use Rattle.weaving.proofs.WovenRows.{woven_alone, woven_other}
use Rattle.weaving.proofs.WovenLine.{root_put, row_put, all_put}
use Rattle.weaving.proofs.weave_line.Goals as goal

pub returns-then-weight-eq1 : goal.returns-then-weight-eq1
returns-then-weight-eq1 c =
    rw (woven_alone _ c.args.tree.is_legal _ c.args.line.below_64 c.weight.ensures c.args.side c.if-weight-eq1.true)
    (root_put _ c.told-rows _ c.args.line.below_64 c.args.side c.clear_line.ensures c.put_row.ensures)

pub loop-k-init : goal.loop-k-init
loop-k-init c =
    let rows = ap length (woven_other _ c.args.tree.is_legal _ c.args.line.below_64 c.weight.ensures c.args.side c.if-weight-eq1.false) in
    record {
      fits = omega (arith, c.requires, c.path_length-k-end.ensures);
      rows_are = root_put _ c.told-rows _ c.args.line.below_64 c.args.side c.clear_line.ensures c.put_row.ensures;
    }

pub loop-k-preserved : goal.loop-k-preserved
loop-k-preserved c = record {
  fits = c.loop-k.invariant.fits;
  rows_are =
      row_put _ c.told-rows _ c.args.line.below_64 c.args.side _ c.loop-k.invariant.rows_are (omega arith) (omega (arith, c.loop-k.invariant.fits))
      (row_in_path _ _ (omega arith) ∙ sym c.row.ensures) c.put_row-in-loop-k.ensures;
}

pub returns : goal.returns
returns c =
    rw (woven_other _ c.args.tree.is_legal _ c.args.line.below_64 c.weight.ensures c.args.side c.if-weight-eq1.false)
    (all_put _ c.told-rows _ c.args.line.below_64 c.args.side _ c.loop-k.invariant.rows_are (omega arith))
