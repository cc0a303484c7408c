-- What the lookup of a line says of the record: a line that is found stands in a tree; where none is found, it is closed or the record is no tree.
-- Assumes nothing.
use Rattle.std.specs.Prelude.{if◌then◌else◌, None, Some}
use Prim.Native.Nat.{ℕ, ◌≤◌}
use native.Mathlib.Omega.{arith}
use mathlib.Core.Path.{◌≡◌, refl, ◌∙◌, ap}
use mathlib.Core.Bool.{Bool, true, false, not}
use mathlib.Core.List.{List}
use mathlib.Core.Logic.{◌⊎◌, inl, inr, ⊎_elim}
use lib.ListN.{length}
use Rattle.tree.specs.Search.{found}
use Rattle.tree.specs.Tree.{path, is_open}
use Rattle.tree.specs.Refusals.{line_refusal}
use Rattle.tree.specs.Record.{path_at, legal}
use Rattle.tree.proofs.Checks.{line_refused_4}
use Rattle.std.proofs.lemmas.Option.{none-some}
use Rattle.paths.specs.Answers.{lookup}
use Rattle.paths.proofs.PathLength.{lookup_nothing, lookup_at}
use Rattle.bridge.specs.Rows.{tree_of_rows}
use Rattle.bridge.proofs.TreeOfRecord.{open_on_record}
use Rattle.bridge.proofs.AskingRecords.{empty_on_illegal}
use Rattle.plan.specs.Lookup.{line_found, OpenIn}

pub found_in_tree : (rows : List ℕ) (L n : ℕ) → line_found rows L ≡ Some n → (legal rows ≡ true) × (lookup (path_at rows L) ≡ Some n)
unfolding line_found
found_in_tree rows L n = go (legal rows) refl
  where
    go : (b : Bool) → legal rows ≡ b → (if b then lookup (path_at rows L) else None) ≡ Some n → (legal rows ≡ true) × (lookup (path_at rows L) ≡ Some n)
    go true is_legal there = (is_legal, there)
    go false illegal there = absurd (none-some n there)

pub absent_or_no_tree : (rows : List ℕ) (L : ℕ) → line_found rows L ≡ None → ((legal rows ≡ true) × (lookup (path_at rows L) ≡ None)) ⊎ (legal rows ≡ false)
unfolding line_found
absent_or_no_tree rows L = go (legal rows) refl
  where
    go : (b : Bool) → legal rows ≡ b → (if b then lookup (path_at rows L) else None) ≡ None → ((legal rows ≡ true) × (lookup (path_at rows L) ≡ None)) ⊎ (legal rows ≡ false)
    go true is_legal absent = inl (is_legal, absent)
    go false illegal absent = inr illegal

pub found_open : (rows : List ℕ) (L n : ℕ) → length rows ≡ 1408 → line_found rows L ≡ Some n → OpenIn rows L
found_open rows L n long there =
    let in_tree = found_in_tree rows L n there in
    record { is_legal = in_tree.0; has_all = long; has_rows = lookup_at (path_at rows L) n in_tree.1 }

pub not_found : (rows : List ℕ) (L : ℕ) → L ≤ 63 → line_found rows L ≡ None → line_refusal L (tree_of_rows rows) ≡ Some 4
unfolding is_open path found
not_found rows L number absent =
    line_refused_4 L (tree_of_rows rows) number
    (⊎_elim
    (λ w. open_on_record rows w.0 L (omega arith) ∙ ap not (lookup_nothing (path_at rows L) w.1))
    (λ illegal. ap (is_open L) (empty_on_illegal rows illegal))
    (absent_or_no_tree rows L absent))
