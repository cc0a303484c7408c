-- The record into which lines were written is that of their tree, and it is legal exactly where they are.
-- Assumes nothing.
use Prim.Native.Nat.{ℕ, suc, ◌<◌}
use native.Mathlib.Omega.{arith}
use mathlib.Core.Path.{◌≡◌, refl, ◌∙◌}
use mathlib.Core.Bool.{true}
use mathlib.Core.List.{List, [], ◌∷◌}
use Rattle.std.specs.List.{All}
use Rattle.std.proofs.lemmas.List.Elements.{All-nil, All-cons, All-head, All-tail, All-weaker}
use lib.ListN.{length}
use Rattle.tree.specs.declared.Plan.{Plan}
use Rattle.tree.specs.Tree.{nothing}
use Rattle.tree.specs.Record.{path_at, legal, tree_of, record_of}
use Rattle.tree.specs.Image.{PlanLine}
use Rattle.tree.specs.ImageReading.{rising, legal_lines, tree_of_lines}
use Rattle.paths.specs.Rules.{set_line}
use Rattle.paths.proofs.Blocks.{block, set_line_length, block_set_line_same, block_set_line_other}
use Rattle.bridge.proofs.RecordBlocks.{record_length}
use Rattle.bridge.proofs.BlockPaths.{path_of_block}
use Rattle.bridge.proofs.WalkOnPaths.{long_has_rows}
use Rattle.bridge.proofs.TreeOfRecord.{tree_of_legal, tree_of_path}
use Rattle.images.specs.Parts.{rows_with}
use Rattle.images.proofs.LineFits.{LineFits, AllFit, path_written}
use Rattle.images.proofs.LinesInTree.{InTree, rising_line, in_tree_legal}
use Rattle.images.proofs.LinesPutIn.{put_in_recorded, legal_fitting}

pub record_of_lines : (xs : List PlanLine) → AllFit xs → legal_lines xs ≡ true → rows_with xs (record_of nothing).rows ≡ (record_of (tree_of_lines xs)).rows
unfolding tree_of_lines
record_of_lines xs fit are_legal = put_in_recorded 0 xs nothing (legal_fitting xs fit are_legal)

-- The paths in the record into which lines were written

-- a line's block is kept by the lines of greater numbers
block_kept : (xs : List PlanLine) (least L : ℕ) (rows : List ℕ) → AllFit xs → rising least xs ≡ true → L < least → length rows ≡ 1408 → block (rows_with xs rows) L ≡ block rows L
unfolding rows_with
block_kept [] least L rows fit rise before long = refl
block_kept (x ∷ xs) least L rows fit rise before long =
    let rises = rising_line least x xs rise in
    let from = rises.0 in
    let number = (All-head LineFits x xs fit).number_below in
    block_kept xs (suc x.number) L (set_line rows x.number x.path) (All-tail LineFits x xs fit) rises.1 (omega arith) (set_line_length rows x.number x.path number long)
    ∙ block_set_line_other rows x.number L x.path number (λ same. omega arith) long

-- the record holds the line's path
record Held (rows : List ℕ) (x : PlanLine) : Type 0 where
  fits : LineFits x
  path_is : path_at rows x.number ≡ x.path

first_line_held : (least : ℕ) (x : PlanLine) (xs : List PlanLine) (rows : List ℕ) → AllFit (x ∷ xs) → rising least (x ∷ xs) ≡ true → length rows ≡ 1408 → Held (rows_with (x ∷ xs) rows) x
unfolding rows_with
first_line_held least x xs rows fit rise long =
    let fits = All-head LineFits x xs fit in
    let changed = set_line rows x.number x.path in
    let changed_length = set_line_length rows x.number x.path fits.number_below long in
    let kept = block_kept xs (suc x.number) x.number changed (All-tail LineFits x xs fit) (rising_line least x xs rise).1 (omega arith) changed_length in
    let put = block_set_line_same rows x.number x.path fits.number_below long in
    record {
      fits = fits;
      path_is = path_of_block (rows_with (x ∷ xs) rows) x.number x.path (path_written x fits) (kept ∙ put);
    }

each_line_held : (least : ℕ) (xs : List PlanLine) (rows : List ℕ) → AllFit xs → rising least xs ≡ true → length rows ≡ 1408 → All (Held (rows_with xs rows)) xs
unfolding rows_with
each_line_held least [] rows fit rise long = All-nil (Held rows)
each_line_held least (x ∷ xs) rows fit rise long =
    let changed_length = set_line_length rows x.number x.path (All-head LineFits x xs fit).number_below long in
    All-cons (Held (rows_with (x ∷ xs) rows)) x xs
    (first_line_held least x xs rows fit rise long)
    (each_line_held (suc x.number) xs (set_line rows x.number x.path) (All-tail LineFits x xs fit) (rising_line least x xs rise).1 changed_length)

held_in_tree : (plan : Plan) → legal plan.rows ≡ true → (x : PlanLine) → Held plan.rows x → InTree (tree_of plan) x
held_in_tree plan is_legal x held =
    tree_of_path plan x.number is_legal held.fits.number_below ∙ rw (held.path_is, long_has_rows x.path held.fits.some_rows)

pub record_of_legal_lines : (xs : List PlanLine) → AllFit xs → rising 0 xs ≡ true → legal (rows_with xs (record_of nothing).rows) ≡ true → legal_lines xs ≡ true
record_of_legal_lines xs fit rise is_legal =
    in_tree_legal (tree_of plan) (tree_of_legal plan) xs rise
    (All-weaker (Held plan.rows) (InTree (tree_of plan)) (held_in_tree plan is_legal) xs (each_line_held 0 xs (record_of nothing).rows fit rise (record_length nothing)))
  where
    plan : Plan
    plan = record { rows = rows_with xs (record_of nothing).rows }
