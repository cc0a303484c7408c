use Rattle.paths.proofs.Filled.{filled_none, filled_more}
use Rattle.paths.proofs.LegalLines.{legal_rest_unused}
use Rattle.paths.proofs.ElevenRows.{copied_all}
use Rattle.paths.proofs.path_rows.rows_of.Goals as goal

pub loop-row-init : goal.loop-row-init
loop-row-init c = filled_none _ _ _ _

pub loop-row-preserved : goal.loop-row-preserved
loop-row-preserved c = filled_more c.loop-row.invariant c.loop-row-test.true c.row.ensures

pub returns : goal.returns
returns c = copied_all _ _ c.loop-row.invariant c.loop-row-test.false (legal_rest_unused _ c.args.tree.is_legal _ c.args.line.below_64)
