-- The record of a woven tree: the lines of the first plan on side 0 of the empty record, and those of the second on side 1.
-- Assumes nothing.
use Rattle.std.specs.Prelude.{if◌then◌else◌, Option, None, option_map, unwrap_or}
use Prim.Native.Nat.{ℕ, ◌<◌}
use native.Mathlib.Omega.{arith}
use mathlib.Core.Path.{◌≡◌, refl, sym, ◌∙◌, ap}
use mathlib.Core.Bool.{true, false, not, false≢true}
use mathlib.Core.List.{List, [], ◌∷◌}
use lib.ListN.{length, replicate}
use Rattle.std.proofs.lemmas.List.{length-replicate}
use borrow.Author.Tests.{not-false}
use Rattle.tree.specs.declared.Row.{Row}
use Rattle.tree.specs.Search.{or_else}
use Rattle.tree.specs.Tree.{Tree, path, path_of, nothing}
use Rattle.tree.specs.Asking.{rows_11}
use Rattle.tree.specs.Record.{path_at, no_rows, legal, numbers, record_of}
use Rattle.tree.specs.Weaving.{woven, weave_refusal, woven_path}
use Rattle.tree.proofs.WovenPaths.{woven_path_is}
use Rattle.tree.proofs.WovenLegal.{woven_not_both}
use Rattle.paths.proofs.Blocks.{block, rows_by_blocks}
use Rattle.paths.proofs.ChangedLines.{set_lines_length, block_changed}
use Rattle.bridge.specs.Rows.{plan_of, tree_of_rows}
use Rattle.bridge.proofs.AskingRecords.{open_by_rows}
use Rattle.bridge.proofs.Grown.{path_held}
use Rattle.bridge.proofs.RecordBlocks.{record_length, block_of_record, zeros_are_empty}
use Rattle.bridge.proofs.TreeOfRecord.{tree_of_path, legal_on_record}
use Rattle.weaving.specs.Sides.{with_side}

-- a record of zeros, which is that of the empty plan
abbrev zeros : List ℕ
zeros = replicate 1408 0

zeros_length : length zeros ≡ 1408
zeros_length = length-replicate {A = ℕ} 1408 0

zero_block : (M : ℕ) → M < 64 → block zeros M ≡ numbers (rows_11 [])
unfolding path_of path
zero_block M below = ap (λ (rows : List ℕ). block rows M) zeros_are_empty ∙ block_of_record nothing M below

-- the path in the woven tree of a line whose rows are ps in the first record and qs in the second
abbrev path_woven : List Row → List Row → Option (List Row)
path_woven ps qs = or_else (option_map (woven_path 0) (path_held ps)) (option_map (woven_path 1) (path_held qs))

-- its block, where it is not open in both
block_woven : (ps qs : List Row) → (no_rows ps ≡ false → no_rows qs ≡ true) →
    (if not (no_rows qs) then numbers (rows_11 (woven_path 1 qs)) else if not (no_rows ps) then numbers (rows_11 (woven_path 0 ps)) else numbers (rows_11 []))
    ≡ numbers (rows_11 (unwrap_or (path_woven ps qs) []))
unfolding no_rows or_else
block_woven [] [] one = refl
block_woven [] (q ∷ qs) one = refl
block_woven (p ∷ ps) [] one = refl
block_woven (p ∷ ps) (q ∷ qs) one = absurd (false≢true (one refl))

module _ (a b : List ℕ) (legal_a : legal a ≡ true) (legal_b : legal b ≡ true) (none_refuses : weave_refusal (tree_of_rows a) (tree_of_rows b) ≡ None) where
  abbrev tree : Tree
  tree = woven (tree_of_rows a) (tree_of_rows b)

  -- the records that the code writes
  abbrev first_side : List ℕ
  first_side = with_side zeros (path_at a) 0 64

  abbrev both_sides : List ℕ
  both_sides = with_side first_side (path_at b) 1 64

  first_side_length : length first_side ≡ 1408
  first_side_length = set_lines_length zeros _ _ zeros_length 64 (omega arith)

  module _ (M : ℕ) (below : M < 64) where
    path_in_tree : path M tree ≡ path_woven (path_at a M) (path_at b M)
    unfolding tree_of_rows
    path_in_tree =
        woven_path_is (tree_of_rows a) (tree_of_rows b) M (legal_on_record a) (legal_on_record b)
        ∙ rw (tree_of_path (plan_of a) M legal_a below, tree_of_path (plan_of b) M legal_b below)

    not_in_both : no_rows (path_at a M) ≡ false → no_rows (path_at b M) ≡ true
    not_in_both there =
        let closed = woven_not_both (tree_of_rows a) (tree_of_rows b) none_refuses M below (open_by_rows a legal_a M (omega arith) false there) in
        not-false _ (sym (open_by_rows b legal_b M (omega arith) _ refl) ∙ closed)

    block_in_tree : block both_sides M ≡ numbers (rows_11 (path_of M tree))
    unfolding path_of
    block_in_tree =
        block_changed first_side _ _ first_side_length 64 M (omega arith) below
        ∙ rw (block_changed zeros (λ M. not (no_rows (path_at a M))) (λ M. woven_path 0 (path_at a M)) zeros_length 64 M (omega arith) below, zero_block M below, path_in_tree)
        (block_woven (path_at a M) (path_at b M) not_in_both)

  pub woven_record : both_sides ≡ (record_of tree).rows
  woven_record =
      rows_by_blocks both_sides (record_of tree).rows (set_lines_length first_side _ _ first_side_length 64 (omega arith)) (record_length tree) λ M below.
      block_in_tree M below ∙ sym (block_of_record tree M below)
