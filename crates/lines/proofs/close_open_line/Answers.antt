-- `lines::close_open_line` meets its contract: the record with the line's rows cleared, and joined up along the line's path, is the one of the closed tree.
-- Assumes nothing.
use native.Mathlib.Omega.{arith}
use Rattle.paths.proofs.PathRest.{path_length_at_most_11}
use Rattle.bridge.proofs.CallsOnRecords.{cleared_on, close_on}
use Rattle.lines.proofs.CloseLine.{joined_along}
use Rattle.lines.proofs.close_open_line.Goals as goal

pub join_up-requires-clause-count : goal.join_up-requires-clause-count
join_up-requires-clause-count c = rw c.path_length-count.ensures (path_length_at_most_11 _ _)

pub join_up-requires-clause-tree : goal.join_up-requires-clause-tree
join_up-requires-clause-tree c = rw c.clear_line.ensures (cleared_on _ c.requires.0 c.told-rows _ c.args.line.below_64).is_legal

pub returns : goal.returns
returns c =
    close_on _ c.requires.0 c.told-rows _ _ c.join_up.array_long (omega (arith, c.args.line.below_64)) c.requires.1
    (joined_along _ _ _ _ _ _ c.clear_line.ensures c.rows_of-path.ensures c.path_length-count.ensures c.join_up.ensures)
