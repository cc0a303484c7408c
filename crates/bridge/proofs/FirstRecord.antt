-- The record of the tree with one line, opened in a plan without open lines.
-- Assumes nothing.
use Prim.Native.Nat.{ℕ, zero, suc, ◌<◌, ◌≤◌}
use native.Mathlib.Omega.{arith}
use mathlib.Core.Path.{◌≡◌, refl, sym, ◌∙◌, ap}
use mathlib.Core.Bool.{true}
use mathlib.Core.List.{List, [], ◌∷◌}
use Rattle.std.specs.Prelude.{Option, unwrap_or}
use lib.ListN.{length}
use Rattle.tree.specs.declared.Row.{Row}
use Rattle.tree.specs.declared.Plan.{Plan}
use Rattle.tree.specs.Tree.{nothing, row, path_of}
use Rattle.tree.specs.Opening.{opened}
use Rattle.tree.specs.Asking.{rows_11}
use Rattle.tree.specs.Record.{path_at, no_rows, legal, grown, tree_of, numbers, record_of}
use Rattle.paths.specs.Rules.{set_line}
use Rattle.paths.proofs.RowLaws.{no_rows_empty}
use Rattle.bridge.proofs.RecordBlocks.{set_line_record}
use Rattle.bridge.proofs.RouteOpening.{opened_path_empty, opened_path_empty_other}
use Rattle.bridge.proofs.ClearedRecord.{legal_block}

-- no line is open in the record
unfoldable pub AllClosed : List ℕ → Type 0
AllClosed rows = (M : ℕ) → M < 64 → no_rows (path_at rows M) ≡ true

grown_nothing : (rows : List ℕ) (n : ℕ) → n ≤ 64 → AllClosed rows → grown rows n ≡ nothing
unfolding grown AllClosed
grown_nothing rows zero most closed = refl
grown_nothing rows (suc n) most closed = rw (closed n most) (grown_nothing rows n (omega arith) closed)

pub all_closed_nothing : (plan : Plan) → legal plan.rows ≡ true → AllClosed plan.rows → tree_of plan ≡ nothing
unfolding tree_of
all_closed_nothing plan is_legal closed = rw is_legal (grown_nothing plan.rows 64 (omega arith) closed)

pub first_record : (plan : Plan) (L p : ℕ) → L < 64 → 0 < p → legal plan.rows ≡ true → length plan.rows ≡ 1408 → AllClosed plan.rows →
    set_line plan.rows L (row p 0 ∷ []) ≡ (record_of (opened L p nothing)).rows
unfolding path_of AllClosed
first_record plan L p below positive is_legal long closed =
    set_line_record rows L (row p 0 ∷ []) (opened L p nothing) below long (ap (λ (o : Option (List Row)). unwrap_or o []) (sym (opened_path_empty L p positive))) λ M M_below other.
    legal_block rows M is_legal long M_below
    ∙ ap (λ (rs : List Row). numbers (rows_11 rs)) (no_rows_empty (path_at rows M) (closed M M_below))
    ∙ ap (λ (o : Option (List Row)). numbers (rows_11 (unwrap_or o []))) (sym (opened_path_empty_other L p M other))
  where
    rows : List ℕ
    rows = plan.rows
