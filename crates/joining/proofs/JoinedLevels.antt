-- The nodes of a path joined level by level in the record: each join leaves the record of the tree joined there, and the lines through the nodes above stay the same.
-- Assumes nothing.
use Prim.Native.Nat.{ℕ, suc, ◌+◌, ◌-◌, ◌≤◌}
use native.Mathlib.Omega.{arith}
use mathlib.Core.Path.{◌≡◌, refl, sym, ◌∙◌}
use mathlib.Core.List.{List}
use Rattle.std.specs.Prelude.{None, Some}
use lib.ListN.{length}
use Rattle.tree.specs.declared.Row.{Row}
use Rattle.tree.specs.Closing.{join, join_times, join_fully}
use Rattle.tree.specs.Record.{path_at}
use Rattle.paths.specs.Rules.{change_lines, join_path, weight_below_on_paths}
use Rattle.paths.proofs.ChangedLines.{set_lines_length}
use Rattle.paths.proofs.LegalLines.{legal_rest_unused, legal_in_range}
use Rattle.bridge.specs.Rows.{tree_of_rows}
use Rattle.bridge.specs.Joining.{at_level, TakesThrough}
use Rattle.bridge.proofs.JoinLevels.{at_level_twice, joined_no_times, level_still}
use Rattle.bridge.proofs.WeightOnPaths.{weight_on_paths_is, taken_path_long}
use Rattle.bridge.proofs.JoinedRecord.{takes_still, joined_record_with}
use Rattle.joining.specs.Common.{through}
use Rattle.joining.specs.Joinable.{RestUnused, Joinable}
use Rattle.joining.specs.Levels.{CommonWith, LevelJoined}

-- The node at level l was joined i times, and is joined while it can be when it is joined as often as is left of 10.
pub record Joins (start rows : List ℕ) (ps : List Row) (common : List ℕ) (l i : ℕ) : Type 0 where
  pub size : length rows ≡ 1408
  pub common_still : CommonWith rows ps common (suc l)
  pub left : (j : ℕ) → i + j ≡ 10 → at_level (join_times j) l ps (tree_of_rows rows) ≡ at_level join_fully l ps (tree_of_rows start)

pub joined_not_yet : (rows : List ℕ) (ps : List Row) (common : List ℕ) (l : ℕ) → length rows ≡ 1408 → CommonWith rows ps common (suc l) → Joins rows rows ps common l 0
unfolding join_fully
joined_not_yet rows ps common l long h = record {
  size = long;
  common_still = h;
  left = λ j all. let ten : j ≡ 10 = omega arith in rw ten refl;
}

module _ (start rows : List ℕ) (ps : List Row) (common : List ℕ) (l i : ℕ) (so_far : Joins start rows ps common l i) where
  takes_here : TakesThrough rows ps l (through common l)
  takes_here = so_far.common_still.takes l (omega arith)

  pub rest_is_unused : RestUnused rows (through common l)
  rest_is_unused M below on = legal_rest_unused rows so_far.common_still.is_legal M below

  pub joinable : (v : ℕ) → weight_below_on_paths (path_at rows) (through common l) l ≡ Some v → Joinable rows (through common l) l
  joinable v weight = record {
    on_line = λ M below on. record {
      goes_on = (taken_path_long rows so_far.common_still.is_legal ps l (through common l) takes_here v weight M below on).0;
      in_range = legal_in_range rows so_far.common_still.is_legal M below;
      rest_is_unused = legal_rest_unused rows so_far.common_still.is_legal M below;
    };
  }

  pub joined_once_more : (v : ℕ) → weight_below_on_paths (path_at rows) (through common l) l ≡ Some v →
      Joins start (change_lines rows (through common l) (join_path l) 64) ps common l (i + 1)
  unfolding join_times
  joined_once_more v weight =
      let is_legal = so_far.common_still.is_legal in
      let after = joined_record_with rows is_legal so_far.size ps l (through common l) takes_here v weight in
      record {
        size = set_lines_length rows (through common l) _ so_far.size 64 (omega arith);
        common_still = record {
          is_legal = after.is_legal;
          takes = λ k below M M_below. so_far.common_still.takes k below M M_below ∙ sym (takes_still rows is_legal so_far.size ps l (through common l) takes_here v weight k (omega arith) M M_below);
        };
        left = λ j all. rw after.tree_is (at_level_twice (join_times j) join l ps (tree_of_rows rows) ∙ so_far.left (suc j) (omega arith));
      }

  -- where it cannot be joined, that is the end
  pub joined_to_the_last : i ≤ 10 → weight_below_on_paths (path_at rows) (through common l) l ≡ None → LevelJoined start rows ps common l
  joined_to_the_last within none =
      let cannot = sym (weight_on_paths_is rows so_far.common_still.is_legal ps l (through common l) takes_here) ∙ none in
      record { common_still = so_far.common_still; tree_is = sym (level_still (10 - i) l ps (tree_of_rows rows) cannot) ∙ so_far.left (10 - i) (omega arith) }

  -- and so it is after 10 joins
  pub joined_10_times : i ≡ 10 → LevelJoined start rows ps common l
  joined_10_times all = record { common_still = so_far.common_still; tree_is = sym (joined_no_times l ps (tree_of_rows rows)) ∙ so_far.left 0 (omega arith) }
