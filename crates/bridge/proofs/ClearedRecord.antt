-- The record of a tree from which a line was taken out: the record with that line's rows cleared.
-- Assumes nothing.
use Prim.Native.Nat.{ℕ, ◌<◌}
use mathlib.Core.Path.{◌≡◌, sym, ◌∙◌, ap}
use mathlib.Core.Bool.{true}
use mathlib.Core.List.{List, []}
use Rattle.std.specs.Prelude.{Option, unwrap_or}
use lib.ListN.{length}
use Rattle.tree.specs.declared.Row.{Row}
use Rattle.tree.specs.declared.Plan.{Plan}
use Rattle.tree.specs.Tree.{Tree, path_of}
use Rattle.tree.specs.Asking.{rows_11}
use Rattle.tree.specs.Closing.{cleared}
use Rattle.tree.specs.Record.{path_at, legal, tree_of, numbers, record_of}
use Rattle.paths.specs.Rules.{set_line}
use Rattle.paths.proofs.LegalLines.{legal_rest_unused}
use Rattle.paths.proofs.Blocks.{block}
use Rattle.bridge.proofs.RecordBlocks.{set_line_record}
use Rattle.bridge.proofs.BlockPaths.{block_of_path}
use Rattle.bridge.proofs.TreeOfRecord.{tree_of_legal, tree_of_path_of}
use Rattle.bridge.proofs.RouteClearing.{cleared_path_other, cleared_path_gone}

-- A legal record, block by block

pub legal_block : (rows : List ℕ) (M : ℕ) → legal rows ≡ true → length rows ≡ 1408 → M < 64 → block rows M ≡ numbers (rows_11 (path_at rows M))
legal_block rows M is_legal long below = block_of_path rows M below long (legal_rest_unused rows is_legal M below)

pub block_of_tree : (plan : Plan) (M : ℕ) → legal plan.rows ≡ true → length plan.rows ≡ 1408 → M < 64 → block plan.rows M ≡ numbers (rows_11 (path_of M (tree_of plan)))
block_of_tree plan M is_legal long below =
    legal_block plan.rows M is_legal long below
    ∙ ap (λ (rs : List Row). numbers (rows_11 rs)) (sym (tree_of_path_of plan M is_legal below))

-- The tree without the line

pub cleared_record : (plan : Plan) (L : ℕ) → L < 64 → legal plan.rows ≡ true → length plan.rows ≡ 1408 →
    set_line plan.rows L [] ≡ (record_of (cleared L (tree_of plan))).rows
unfolding path_of
cleared_record plan L below is_legal long =
    set_line_record plan.rows L [] (cleared L t) below long (ap (λ (o : Option (List Row)). unwrap_or o []) (sym (cleared_path_gone L t))) λ M M_below other.
    block_of_tree plan M is_legal long M_below
    ∙ ap (λ (o : Option (List Row)). numbers (rows_11 (unwrap_or o []))) (sym (cleared_path_other L M t (tree_of_legal plan) other))
  where
    t : Tree
    t = tree_of plan
