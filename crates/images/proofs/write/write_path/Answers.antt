use native.Mathlib.Omega.{arith}
use Rattle.paths.proofs.PathRows.{within_path}
use Rattle.paths.proofs.PathRest.{path_length_at_most_11}
use Rattle.images.proofs.RowsWritten.{room_for_row, no_rows_written, row_fits, row_written}
use Rattle.images.proofs.write.write_path.Goals as goal

pub loop-k-init : goal.loop-k-init
loop-k-init c = no_rows_written _ _

pub row-requires : goal.row-requires
row-requires c = within_path c.args.tree.rows.now c.args.line.number (omega arith)

pub overflow_mul-k : goal.overflow_mul-k
overflow_mul-k c = omega (arith, path_length_at_most_11 c.args.tree.rows.now c.args.line.number)

pub overflow_add-at : goal.overflow_add-at
overflow_add-at c = omega (arith, path_length_at_most_11 c.args.tree.rows.now c.args.line.number)

pub write_row-requires : goal.write_row-requires
write_row-requires c = record {
  fits = row_fits _ _ (omega arith) c.row.ensures c.args.tree.is_legal c.args.line.below_64;
  room = room_for_row _ _ c.requires.room (omega arith) c.loop-k.auto.buffer;
}

pub loop-k-preserved : goal.loop-k-preserved
loop-k-preserved c = row_written _ _ (omega arith) c.row.ensures c.loop-k.invariant c.write_row.ensures
