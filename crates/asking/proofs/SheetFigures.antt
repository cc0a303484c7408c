-- The figures of a sheet (crate tree, specs/Sheet.antt) of a legal record: a line's turns, whether a round is idle, and
-- how many are.
-- Assumes nothing.
use Prim.Native.Nat.{ℕ, zero, suc, ◌<◌, ◌≤◌}
use native.Mathlib.Omega.{arith}
use mathlib.Core.Path.{◌≡◌, refl, sym, ◌∙◌, ap}
use mathlib.Core.Bool.{Bool, true, false}
use mathlib.Core.List.{List}
use Rattle.std.proofs.Common.{length, zero-add, add-one}
use Rattle.std.specs.List.{range_with_len, sum_by, filter}
use Rattle.std.proofs.lemmas.List.{map-id}
use Rattle.std.proofs.lemmas.List.Sums.{length-filter}
use Rattle.std.proofs.lemmas.List.FromFn.{sum_by-map-range_with_len_more}
use Rattle.std.specs.Prelude.{Option, None, Some, option_map}
use Rattle.std.specs.Option.{is_some}
use Rattle.tree.specs.Search.{found, total_below, count_below}
use Rattle.tree.specs.Tree.{product, sum}
use Rattle.tree.specs.Asking.{owned}
use Rattle.tree.specs.Sheet.{line_turns}
use Rattle.tree.specs.Record.{path_at, no_rows, legal}
use Rattle.paths.specs.Rules.{owner_on_paths}
use Rattle.tree.proofs.Ownership.{turns_at_most}
use Rattle.tree.proofs.Sheets.{line_turns_are}
use Rattle.bridge.specs.Rows.{tree_of_rows}
use Rattle.bridge.proofs.TreeOfRecord.{legal_on_record, open_on_record}
use Rattle.bridge.proofs.AskingRecords.{owner_on_record}
use Rattle.asking.specs.Turns.{turns_by_times}
use Rattle.asking.proofs.TurnsByDivision.{turns_on_record}

module _ (rows : List ℕ) (is_legal : legal rows ≡ true) where
  -- A line's turns

  module _ (L : ℕ) (below : L < 64) (a N : ℕ) where
    pub turns_of_closed : no_rows (path_at rows L) ≡ true → 0 ≡ line_turns L a N (tree_of_rows rows)
    unfolding line_turns
    turns_of_closed closed = rw (open_on_record rows is_legal L below, closed)

    -- n was computed from the times of an open line
    module _ (there : no_rows (path_at rows L) ≡ false) {p s n : ℕ} (period_is : p ≡ product (path_at rows L)) (start_is : s ≡ sum (path_at rows L)) (turns_are : n ≡ turns_by_times p s a N) where
      pub turns_of_open : (n ≡ line_turns L a N (tree_of_rows rows)) × (n ≤ N)
      turns_of_open =
          let listed = line_turns_are (tree_of_rows rows) (legal_on_record rows) L a N in
          let counted = (rw (period_is, start_is) at turns_are) ∙ sym (turns_on_record rows is_legal L below there a N) in
          (counted ∙ sym listed, omega (arith, turns_at_most L a N (tree_of_rows rows)))

  -- Whether a round is idle

  -- o is what the walk found
  pub owned_by_walk : (n : ℕ) (o : Option ℕ) → o ≡ owner_on_paths (path_at rows) n → owned n (tree_of_rows rows) ≡ found o
  unfolding owned
  owned_by_walk n o walked = sym (ap found (walked ∙ owner_on_record rows is_legal n))

pub found_mapped : {A B : Type 0} (f : A → B) (o : Option A) → found (option_map f o) ≡ is_some o
unfolding found
found_mapped f None = refl
found_mapped f (Some a) = refl

-- The numbers below n that pass a test, filtered from their list and counted

listed_total : (count : ℕ → ℕ) (n : ℕ) → sum_by count (range_with_len 0 n) ≡ total_below n count
unfolding total_below
listed_total count zero = refl
listed_total count (suc n) =
    let one_more = simp map-id at (sum_by-map-range_with_len_more count (λ i. i) 0 n n (zero-add n)) in
    rw add-one at one_more ∙ rw (listed_total count n)

pub filtered_count : (test : ℕ → Bool) (n : ℕ) → length (filter test (range_with_len 0 n)) ≡ count_below n test
unfolding count_below
filtered_count test n = length-filter test (range_with_len 0 n) ∙ listed_total _ n
