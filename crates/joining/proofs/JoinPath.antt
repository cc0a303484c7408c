-- The rows of a path whose node at a level was joined with the one below it (`join_path`, crate paths, specs/Rules.antt), and the record that
-- `join_line` leaves.
-- Assumes nothing.
use Prim.Native.Nat.{ℕ, zero, suc, ◌+◌, ◌-◌, ◌*◌, ◌<◌, ◌≤◌}
use native.Mathlib.Omega.{arith}
use native.Mathlib.Nat.{mul-le-mul, mul-le-mul_left, mul-one, one-mul, le_trans, le_refl}
use native.Mathlib.Decide.{ℕ_discrete, dec_lt}
use mathlib.Core.Path.{◌≡◌, refl, sym, ◌∙◌}
use mathlib.Core.List.{List, [], ◌∷◌}
use lib.ListN.{length}
use Rattle.tree.specs.declared.Row.{Row}
use Rattle.tree.specs.Tree.{row, product}
use Rattle.tree.specs.Record.{row_at, path_at}
use Rattle.paths.specs.Rules.{row_of, set_line, join_path}
use Rattle.paths.proofs.PathRest.{path_length_at_most_11}
use Rattle.paths.proofs.RangeLaws.{EdgesBelow, path_edges_below, row_edge_below, period_in_range, sum_below}
use Rattle.paths.proofs.RowLaws.{line_row, row_beyond}
use Rattle.booking.specs.Writing.{set_row}
use Rattle.booking.proofs.RecordRows.{set_row_size, set_row_here, set_row_other_line, set_row_other_row}
use Rattle.booking.proofs.SetLine.{is_set_line}
use Rattle.joining.specs.Joinable.{joined_row, JoinableRows, JoinableOnLine}

-- the weights of two rows, one after the other, are factors of the path's product
two_weights : (l : ℕ) (rs : List Row) → EdgesBelow rs → suc l < length rs → (row_of l rs).weight * (row_of (suc l) rs).weight ≤ product rs
unfolding EdgesBelow row_of product
two_weights l [] edges below = absurd (omega arith)
two_weights l (r ∷ []) edges below = absurd (omega arith)
two_weights zero (r ∷ s ∷ rs) edges below =
    let rest : 1 ≤ product rs = omega (arith, sum_below rs edges.1.1) in
    mul-le-mul_left r.weight (rw mul-one at (mul-le-mul_left s.weight rest))
two_weights (suc l) (r ∷ s ∷ rs) edges below =
    let first : 1 ≤ r.weight = omega (arith, edges.0) in
    rw one-mul at (mul-le-mul first (two_weights l (s ∷ rs) edges.1 (omega arith)))

-- The rows of the path

-- above the level the rows are as they were
join_row_above : (l k : ℕ) (rs : List Row) → k < l → row_of k (join_path l rs) ≡ row_of k rs
unfolding join_path row_of
join_row_above zero k rs above = absurd (omega arith)
join_row_above (suc l) k [] above = refl
join_row_above (suc l) zero (r ∷ rs) above = refl
join_row_above (suc l) (suc k) (r ∷ rs) above = join_row_above l k rs (omega arith)

-- the joined node
join_row_at : (l : ℕ) (rs : List Row) → suc l < length rs → row_of l (join_path l rs) ≡ joined_row (row_of l rs) (row_of (suc l) rs)
unfolding join_path row_of
join_row_at l [] below = absurd (omega arith)
join_row_at l (r ∷ []) below = absurd (omega arith)
join_row_at zero (r ∷ s ∷ rs) below = refl
join_row_at (suc l) (r ∷ s ∷ rs) below = join_row_at l (s ∷ rs) (omega arith)

-- the rows after it have moved up by one
join_row_moved : (l k : ℕ) (rs : List Row) → suc l < length rs → l < k → row_of k (join_path l rs) ≡ row_of (suc k) rs
unfolding join_path row_of
join_row_moved l k [] below after = absurd (omega arith)
join_row_moved l k (r ∷ []) below after = absurd (omega arith)
join_row_moved l zero (r ∷ s ∷ rs) below after = absurd (omega arith)
join_row_moved zero (suc k) (r ∷ s ∷ rs) below after = refl
join_row_moved (suc l) (suc k) (r ∷ s ∷ rs) below after = join_row_moved l k (s ∷ rs) (omega arith) (omega arith)

module _ {rows : List ℕ} {L l : ℕ} (joinable : JoinableOnLine rows L l) where
  pub level_below_10 : l < 10
  level_below_10 = omega (arith, joinable.goes_on, path_length_at_most_11 rows L)

  -- the line's row, as its path has it
  row_before : (k : ℕ) → k < 11 → row_at rows L k ≡ row_of k (path_at rows L)
  row_before = line_row rows L joinable.rest_is_unused

  -- the two rows were read
  module _ {node child : Row} (read : node ≡ row_at rows L l) (read_child : child ≡ row_at rows L (suc l)) where
    node_is : node ≡ row_of l (path_at rows L)
    node_is = read ∙ row_before l (omega (arith, level_below_10))

    child_is : child ≡ row_of (suc l) (path_at rows L)
    child_is = read_child ∙ row_before (suc l) (omega (arith, level_below_10))

    pub rows_joinable : JoinableRows node child
    rows_joinable =
        let edges = path_edges_below (path_at rows L) joinable.in_range in
        rw (node_is, child_is) record {
          edge_below = row_edge_below (path_at rows L) edges l (omega (arith, joinable.goes_on));
          child_edge_below = row_edge_below (path_at rows L) edges (suc l) joinable.goes_on;
          small = le_trans (two_weights l (path_at rows L) edges joinable.goes_on) (period_in_range (path_at rows L) joinable.in_range);
        }

-- The rows of line L before row k, which are after row l + 1, have moved up by one; those up to row l and all others are as they were.
pub record MovedUp (start rows : List ℕ) (L l k : ℕ) : Type 0 where
  pub after_child : l + 2 ≤ k
  pub size : length rows ≡ 1408
  pub above : (j : ℕ) → j ≤ l → row_at rows L j ≡ row_at start L j
  pub moved : (j : ℕ) → l < j → suc j < k → row_at rows L j ≡ row_at start L (suc j)
  pub ahead : (j : ℕ) → k ≤ j → row_at rows L j ≡ row_at start L j
  pub others : (M j : ℕ) → (M ≡ L → ⊥) → j < 11 → row_at rows M j ≡ row_at start M j

pub moved_up_none : (start : List ℕ) (L l : ℕ) → length start ≡ 1408 → MovedUp start start L l (l + 2)
moved_up_none start L l size = record {
  after_child = le_refl (l + 2);
  size = size;
  above = λ j within. refl;
  moved = λ j after before. absurd (omega arith);
  ahead = λ j past. refl;
  others = λ M j other within. refl;
}

module _ {start rows : List ℕ} {L l k : ℕ} (so_far : MovedUp start rows L l k) (below : L < 64) where
  -- row k moves to the one before
  pub moved_up_more : {r : Row} {new : List ℕ} → k < 11 → r ≡ row_at rows L k → new ≡ set_row rows L (k - 1) r → MovedUp start new L l (k + 1)
  moved_up_more {r} within read put = rw put record {
    after_child = omega (arith, so_far.after_child);
    size = set_row_size rows L (k - 1) r ∙ so_far.size;
    above = λ j h. set_row_other_row rows L (k - 1) r j (λ e. omega (arith, so_far.after_child)) ∙ so_far.above j h;
    moved = λ j after before. here j after before (ℕ_discrete j (k - 1));
    ahead = λ j past. set_row_other_row rows L (k - 1) r j (λ e. omega (arith, so_far.after_child)) ∙ so_far.ahead j (omega arith);
    others = λ M j other h. set_row_other_line rows L (k - 1) r M j other (omega arith) h ∙ so_far.others M j other h;
  }
    where
      here : (j : ℕ) → l < j → suc j < k + 1 → Dec (j ≡ k - 1) → row_at (set_row rows L (k - 1) r) L j ≡ row_at start L (suc j)
      here j after before (no other) = set_row_other_row rows L (k - 1) r j other ∙ so_far.moved j after (omega (arith, so_far.after_child))
      here j after before (yes e) =
          let there : suc j ≡ k = omega (arith, so_far.after_child) in
          rw (there, e) (set_row_here rows L (k - 1) r so_far.size below (omega arith) ∙ read ∙ so_far.ahead k (le_refl k))

  -- The loop has come to the end: the last row is cleared, and the joined one written.

  module _ {node child : Row} (past : 11 ≤ k) (joinable : JoinableOnLine start L l) (size : length start ≡ 1408) (read : node ≡ row_at start L l) (read_child : child ≡ row_at start L (suc l)) where
    abbrev without_last : List ℕ
    without_last = set_row rows L 10 (row 0 0)

    abbrev with_joined : List ℕ
    with_joined = set_row without_last L l (joined_row node child)

    without_last_size : length without_last ≡ 1408
    without_last_size = set_row_size rows L 10 _ ∙ so_far.size

    row_written : (j : ℕ) → j < 11 → Dec (j < l) → Dec (j ≡ l) → Dec (j ≡ 10) → row_at with_joined L j ≡ row_of j (join_path l (path_at start L))
    row_written j within (yes above) e last =
        set_row_other_row without_last L l _ j (λ e. omega arith)
        ∙ set_row_other_row rows L 10 _ j (λ e. omega (arith, level_below_10 joinable))
        ∙ so_far.above j (omega arith)
        ∙ row_before joinable j within
        ∙ sym (join_row_above l j (path_at start L) above)
    row_written j within (no other) (yes e) last =
        rw (e, join_row_at l (path_at start L) joinable.goes_on, ← node_is joinable read read_child, ← child_is joinable read read_child)
        (set_row_here without_last L l _ without_last_size below (omega (arith, level_below_10 joinable)))
    row_written j within (no other) (no e) (yes last) =
        set_row_other_row without_last L l _ j e
        ∙ rw last (set_row_here rows L 10 _ so_far.size below (omega arith))
        ∙ sym (row_beyond (path_at start L) (suc j) (omega (arith, path_length_at_most_11 start L)))
        ∙ sym (join_row_moved l j (path_at start L) joinable.goes_on (omega arith))
    row_written j within (no other) (no e) (no earlier) =
        set_row_other_row without_last L l _ j e
        ∙ set_row_other_row rows L 10 _ j earlier
        ∙ so_far.moved j (omega arith) (omega arith)
        ∙ row_before joinable (suc j) (omega arith)
        ∙ sym (join_row_moved l j (path_at start L) joinable.goes_on (omega arith))

    pub join_written : with_joined ≡ set_line start L (join_path l (path_at start L))
    join_written =
        is_set_line start size L below _ with_joined (set_row_size without_last L l _ ∙ without_last_size)
        (λ j within. row_written j within (dec_lt j l) (ℕ_discrete j l) (ℕ_discrete j 10))
        (λ M j other within.
        set_row_other_line without_last L l _ M j other (omega (arith, level_below_10 joinable)) within
        ∙ set_row_other_line rows L 10 _ M j other (omega arith) within
        ∙ so_far.others M j other within)
