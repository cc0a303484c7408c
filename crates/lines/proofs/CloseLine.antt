-- The ways that a close can be refused on a legal record, and the joining along the path of a line that goes.
-- Assumes nothing.
use Prim.Native.Nat.{ℕ, ◌<◌, ◌≤◌}
use native.Mathlib.Omega.{arith}
use mathlib.Core.Path.{◌≡◌, refl, ◌∙◌, ap, ap₂, subst₂}
use mathlib.Core.Bool.{true, not}
use mathlib.Core.List.{List, [], ◌++◌}
use lib.ListN.{length, take, replicate}
use lib.Seq.{take_at}
use Rattle.std.proofs.lemmas.List.{take-take}
use Rattle.tree.specs.declared.Row.{Row}
use Rattle.tree.specs.Tree.{row}
use Rattle.tree.specs.Closing.{joined_up}
use Rattle.tree.specs.Asking.{rows_11}
use Rattle.tree.specs.Calls.{close_line, refusal, refused}
use Rattle.tree.specs.Record.{path_at, legal}
use Rattle.tree.proofs.Checks.{line_refused_1, line_refused_4}
use Rattle.std.specs.Prelude.{None}
use Rattle.paths.specs.Answers.{lookup}
use Rattle.paths.specs.Rules.{set_line}
use Rattle.paths.proofs.PathRest.{path_length_at_most_11}
use Rattle.paths.proofs.PathLength.{lookup_nothing}
use Rattle.bridge.specs.Rows.{tree_of_rows, LegalWith, CarriedOut}
use Rattle.bridge.proofs.TreeOfRecord.{open_on_record}
use Rattle.bridge.proofs.CallsOnRecords.{refused_on}

pub close_above : (rows : List ℕ) (L : ℕ) → 63 < L → CarriedOut (close_line L) rows rows (refused 1)
unfolding refusal
close_above rows L above = refused_on (close_line L) rows 1 (line_refused_1 L (tree_of_rows rows) above)

pub close_absent : (rows : List ℕ) (L : ℕ) → legal rows ≡ true → L ≤ 63 → lookup (path_at rows L) ≡ None → CarriedOut (close_line L) rows rows (refused 4)
unfolding refusal
close_absent rows L is_legal number h =
    refused_on (close_line L) rows 4
    (line_refused_4 L (tree_of_rows rows) number (open_on_record rows is_legal L (omega arith) ∙ ap not (lookup_nothing (path_at rows L) h)))

-- the 11 rows of a path begin with the path
path_of_rows : (rs : List Row) → length rs ≤ 11 → take (length rs) (rows_11 rs) ≡ rs
unfolding rows_11
path_of_rows rs most = take-take (length rs) 11 (rs ++ replicate 11 (row 0 0)) most ∙ take_at rs (replicate 11 (row 0 0)) (length rs) refl

pub joined_along : (rows cleared left : List ℕ) (path : List Row) (count L : ℕ) → cleared ≡ set_line rows L [] → path ≡ rows_11 (path_at rows L) → count ≡ length (path_at rows L) →
    LegalWith left (joined_up (take count path) (tree_of_rows cleared)) → LegalWith left (joined_up (path_at rows L) (tree_of_rows (set_line rows L [])))
joined_along rows cleared left path count L cleared_is path_is count_is joined =
    let own : take count path ≡ path_at rows L = ap₂ take count_is path_is ∙ path_of_rows (path_at rows L) (path_length_at_most_11 rows L) in
    subst₂ (λ (rs : List Row) (from : List ℕ). LegalWith left (joined_up rs (tree_of_rows from))) own cleared_is joined
