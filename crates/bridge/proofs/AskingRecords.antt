-- Asking a record: owner and show over the record's paths answer what the rules answer on its tree; which calls are refused; its sheet adds up.
-- Assumes nothing.
use Prim.Native.Nat.{ℕ, ◌<◌, ◌≤◌}
use native.Mathlib.Omega.{arith}
use mathlib.Core.Path.{◌≡◌, ◌∙◌, ap}
use mathlib.Core.Bool.{Bool, true, false, not}
use mathlib.Core.List.{List}
use Rattle.std.specs.Prelude.{None, Some}
use Rattle.tree.specs.declared.Plan.{Plan}
use Rattle.tree.specs.Search.{found}
use Rattle.tree.specs.Tree.{Tree, nothing, product, sum, path, is_open, period_of, start_of}
use Rattle.tree.specs.Asking.{owner, idle_for, owner_or_rest, rows_11, shown, turns}
use Rattle.tree.specs.Sheet.{sheet, sheet_total}
use Rattle.tree.specs.Refusals.{line_refusal}
use Rattle.tree.specs.Calls.{gives, refuses, gives_unless, show_outcome, turns_outcome}
use Rattle.tree.specs.Record.{path_at, no_rows, legal, tree_of}
use Rattle.paths.specs.Rules.{owner_on_paths}
use Rattle.tree.proofs.Resting.{idle_in_empty}
use Rattle.tree.proofs.Sheets.{sheet_adds_up}
use Rattle.tree.proofs.Checks.{line_refused_1, line_refused_4, close_allowed}
use Rattle.bridge.specs.Rows.{tree_of_rows}
use Rattle.bridge.proofs.TreeOfRecord.{tree_of_legal, tree_of_illegal, legal_on_record, paths_on_record, open_on_record}
use Rattle.bridge.proofs.WalkOnPaths.{owner_is}

-- A call that asks and is refused

pub shown_refused : (L n : ℕ) (t : Tree) → line_refusal L t ≡ Some n → show_outcome L t ≡ refuses n
unfolding show_outcome gives_unless
shown_refused L n t h = rw h

pub turns_refused : (L a N n : ℕ) (t : Tree) → line_refusal L t ≡ Some n → turns_outcome L a N t ≡ refuses n
unfolding turns_outcome gives_unless
turns_refused L a N n t h = rw h

module _ (rows : List ℕ) where
  pub shown_refused_1 : (L : ℕ) → 63 < L → show_outcome L (tree_of_rows rows) ≡ refuses 1
  shown_refused_1 L above = shown_refused L 1 (tree_of_rows rows) (line_refused_1 L (tree_of_rows rows) above)

  pub turns_refused_1 : (L a N : ℕ) → 63 < L → turns_outcome L a N (tree_of_rows rows) ≡ refuses 1
  turns_refused_1 L a N above = turns_refused L a N 1 (tree_of_rows rows) (line_refused_1 L (tree_of_rows rows) above)

  -- A record that is no tree

  module _ (illegal : legal rows ≡ false) where
    pub empty_on_illegal : tree_of_rows rows ≡ nothing
    unfolding tree_of_rows
    empty_on_illegal = tree_of_illegal (record { rows = rows }) illegal

    pub owner_on_illegal : (n : ℕ) → owner_or_rest n (tree_of_rows rows) ≡ idle_for 0
    owner_on_illegal n = idle_in_empty n (tree_of_rows rows) empty_on_illegal

    closed_on_illegal : (L : ℕ) → is_open L (tree_of_rows rows) ≡ false
    unfolding is_open path found
    closed_on_illegal L = ap (is_open L) empty_on_illegal

    pub shown_on_illegal : (L : ℕ) → L ≤ 63 → show_outcome L (tree_of_rows rows) ≡ refuses 4
    shown_on_illegal L number = shown_refused L 4 (tree_of_rows rows) (line_refused_4 L (tree_of_rows rows) number (closed_on_illegal L))

    pub turns_on_illegal : (L a N : ℕ) → L ≤ 63 → turns_outcome L a N (tree_of_rows rows) ≡ refuses 4
    turns_on_illegal L a N number = turns_refused L a N 4 (tree_of_rows rows) (line_refused_4 L (tree_of_rows rows) number (closed_on_illegal L))

  -- A legal record

  module _ (is_legal : legal rows ≡ true) where
    pub owner_on_record : (n : ℕ) → owner_on_paths (path_at rows) n ≡ owner n (tree_of_rows rows)
    owner_on_record n = owner_is (tree_of_rows rows) (legal_on_record rows) (path_at rows) (paths_on_record rows is_legal) n

    module _ (L : ℕ) (number : L ≤ 63) where
      pub open_by_rows : (b : Bool) → no_rows (path_at rows L) ≡ b → is_open L (tree_of_rows rows) ≡ not b
      open_by_rows b rows_are = open_on_record rows is_legal L (omega arith) ∙ ap not rows_are

      allowed : no_rows (path_at rows L) ≡ false → line_refusal L (tree_of_rows rows) ≡ None
      allowed there = close_allowed L (tree_of_rows rows) number (open_by_rows false there)

      refused : no_rows (path_at rows L) ≡ true → line_refusal L (tree_of_rows rows) ≡ Some 4
      refused absent = line_refused_4 L (tree_of_rows rows) number (open_by_rows true absent)

      pub shown_on_record : no_rows (path_at rows L) ≡ false →
          show_outcome L (tree_of_rows rows) ≡ gives (record { period = product (path_at rows L); start = sum (path_at rows L); rows = rows_11 (path_at rows L) })
      unfolding show_outcome gives_unless shown period_of start_of
      shown_on_record there = rw (allowed there, ← paths_on_record rows is_legal L (omega arith))

      pub turns_not_refused : (a N : ℕ) → no_rows (path_at rows L) ≡ false → turns_outcome L a N (tree_of_rows rows) ≡ gives (turns L a N (tree_of_rows rows))
      unfolding turns_outcome gives_unless
      turns_not_refused a N there = rw (allowed there)

      pub shown_refused_4 : no_rows (path_at rows L) ≡ true → show_outcome L (tree_of_rows rows) ≡ refuses 4
      shown_refused_4 absent = shown_refused L 4 (tree_of_rows rows) (refused absent)

      pub turns_refused_4 : (a N : ℕ) → no_rows (path_at rows L) ≡ true → turns_outcome L a N (tree_of_rows rows) ≡ refuses 4
      turns_refused_4 a N absent = turns_refused L a N 4 (tree_of_rows rows) (refused absent)

-- (Ask 5, 3) The sheet of every plan record adds up.
pub sheet_of_plan_adds_up : (plan : Plan) (a N : ℕ) → sheet_total (sheet a N (tree_of plan)) ≡ N
sheet_of_plan_adds_up plan = sheet_adds_up (tree_of plan) (tree_of_legal plan)
