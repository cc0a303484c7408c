-- The lines through a node while it is split on one line after the other: whether a line goes through it is asked of a record
-- in which the lines of smaller numbers are split already.
-- Assumes nothing.
use Prim.Native.Nat.{ℕ, ◌+◌, ◌<◌, ◌≤◌}
use native.Mathlib.Omega.{arith}
use native.Mathlib.Nat.{le_refl}
use native.Mathlib.Decide.{ℕ_discrete, dec_lt}
use native.Mathlib.Numerals.{add-one}
use mathlib.Core.Path.{◌≡◌, refl, sym, ◌∙◌, ap}
use mathlib.Core.Bool.{Bool, true, false}
use mathlib.Core.List.{List}
use lib.ListN.{length}
use Rattle.tree.specs.declared.Row.{Row}
use Rattle.tree.specs.Record.{row_at, path_at}
use Rattle.paths.specs.Rules.{row_of, same_node, set_line, split_path, set_lines, split_lines}
use Rattle.paths.proofs.PathRest.{path_length_at_most_11}
use Rattle.paths.proofs.PathRows.{row_in_path, weight_in_path}
use Rattle.paths.proofs.SameNode.{same_node_goes_on, same_node_by_edges, same_node_either}
use Rattle.paths.proofs.Blocks.{row_at_by_block, row_at_of_block}
use Rattle.paths.proofs.ChangedLines.{block_not_yet, block_changed}
use Rattle.booking.specs.Writing.{SplittableOnLine, Splittable}
use Rattle.booking.proofs.PathRows.{path_goes_on, path_same, rest_unused_same}
use Rattle.booking.proofs.SplitPath.{split_row_above, split_row_at}

-- a line whose path was split goes through the node that it went through
module _ (rows new : List ℕ) (L l d : ℕ) (above_0 : 0 < d) (on_path : l < length (path_at rows L)) (split : (k : ℕ) → k < 11 → row_at new L k ≡ row_of k (split_path l d (path_at rows L))) where
  level_below_11 : l < 11
  level_below_11 = omega (arith, path_length_at_most_11 rows L)

  row_above : (k : ℕ) → k < l → row_at new L k ≡ row_of k (path_at rows L)
  row_above k h = split k (omega (arith, level_below_11)) ∙ split_row_above l d k (path_at rows L) h

  weights : (k : ℕ) → k ≤ l → Dec (k ≡ l) → (row_at new L k).weight ≡ 0 → ⊥
  weights k h (yes e) z = omega (arith, ap (λ (r : Row). r.weight) (split l level_below_11 ∙ split_row_at l d (path_at rows L) on_path), rw e at z)
  weights k h (no other) z = weight_in_path rows L (omega arith) (ap (λ (r : Row). r.weight) (sym (row_above k (omega arith) ∙ row_in_path rows L (omega arith))) ∙ z)

  goes_on : l < length (path_at new L)
  goes_on = path_goes_on new L l level_below_11 (λ k h. weights k h (ℕ_discrete k l))

  split_same_node : same_node l (path_at rows L) (path_at new L) ≡ true
  split_same_node =
      same_node_by_edges l (path_at rows L) (path_at new L) on_path goes_on
      (λ k h. ap (λ (r : Row). r.edge) (sym (row_in_path new L (omega (arith, goes_on)) ∙ row_above k h)))

-- the lines below n were split where they go through the node at level l of line L's path
module _ {start rows : List ℕ} {L l d n : ℕ} (size : length start ≡ 1408) (splittable : Splittable start L l d) (below : n < 64) (same : rows ≡ split_lines start (path_at start L) l d n) where
  -- the lines that are split
  abbrev goes_through : ℕ → Bool
  goes_through M = same_node l (path_at start L) (path_at start M)

  -- line n is as it was
  not_reached : (k : ℕ) → k < 11 → row_at rows n k ≡ row_at start n k
  not_reached = row_at_by_block rows start n (rw same (block_not_yet start goes_through (λ M. split_path l d (path_at start M)) size n n (omega arith) (le_refl n)))

  path_kept : path_at rows n ≡ path_at start n
  path_kept = path_same rows start n not_reached

  through_itself : same_node l (path_at start L) (path_at start L) ≡ true
  through_itself = same_node_by_edges l _ _ splittable.on_path splittable.on_path (λ k h. refl)

  -- line L still goes through the node
  way_kept : Dec (L < n) → same_node l (path_at start L) (path_at rows L) ≡ true
  way_kept (yes passed) =
      let block = rw (through_itself, ← same) at (block_changed start goes_through (λ M. split_path l d (path_at start M)) size n L (omega arith) passed) in
      split_same_node start rows L l d splittable.divisor_above_0 splittable.on_path (row_at_of_block rows L _ block)
  way_kept (no other) =
      let block = rw (← same) at (block_not_yet start goes_through (λ M. split_path l d (path_at start M)) size n L (omega arith) (omega arith)) in
      rw (path_same rows start L (row_at_by_block rows start L block)) through_itself

  module _ {through : Bool} (read : through ≡ same_node l (path_at rows L) (path_at rows n)) where
    -- what the test says of line n at the start
    test_kept : through ≡ same_node l (path_at start L) (path_at start n)
    test_kept = read ∙ sym (same_node_either l _ _ (way_kept (dec_lt L n)) (path_at rows n)) ∙ ap (same_node l (path_at start L)) path_kept

    -- a line that goes by another way is passed
    pub line_passed : through ≡ false → rows ≡ split_lines start (path_at start L) l d (n + 1)
    unfolding set_lines
    line_passed other = rw (add-one, ← test_kept, other) same

    pub through_splittable : through ≡ true → SplittableOnLine rows n l d
    through_splittable is_through =
        let left = splittable.row_left n below (sym test_kept ∙ is_through) in
        record {
          divisor_above_0 = splittable.divisor_above_0;
          on_path = (same_node_goes_on l (path_at rows L) (path_at rows n) (sym read ∙ is_through)).1;
          row_left = record {
            short = rw path_kept left.short;
            rest_is_unused = rest_unused_same start rows n (λ k h. sym (not_reached k h)) left.rest_is_unused;
          };
        }

    pub line_split : through ≡ true → {new : List ℕ} → new ≡ set_line rows n (split_path l d (path_at rows n)) → new ≡ split_lines start (path_at start L) l d (n + 1)
    unfolding set_lines
    line_split is_through done = rw (add-one, ← test_kept, is_through, ← same, ← path_kept) done
