use borrow.Author.Rules.{rules}
use Rattle.plan.specs.Ask.{shown_in}
use Rattle.gaplinte.proofs.RowsWritten.{no_rows_written, row_more_written, rows_written}
use Rattle.gaplinte.proofs.show.shown_numbers.Goals as goal

pub loop-k-init : goal.loop-k-init
loop-k-init c = no_rows_written (shown_in c.args.line)

pub loop-k-preserved : goal.loop-k-preserved
loop-k-preserved c = row_more_written (shown_in c.args.line) c.loop-k.invariant c.loop-k-test.true

pub returns : goal.returns
returns c = rows_written (shown_in c.args.line) c.loop-k.invariant c.loop-k-test.false (search rules)
