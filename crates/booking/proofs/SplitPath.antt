-- The rows of a path whose node at a level was split (`split_path`, crate paths, specs/Rules.antt), and the record that `split_line` leaves.
-- Assumes nothing.
use Prim.Native.Nat.{ℕ, zero, suc, ◌+◌, ◌-◌, ◌/◌, ◌%◌, ◌<◌, ◌≤◌}
use native.Mathlib.Omega.{arith}
use native.Mathlib.Numerals.{add-one}
use native.Mathlib.Decide.{ℕ_discrete, dec_lt}
use mathlib.Core.Path.{◌≡◌, refl, sym, ◌∙◌}
use mathlib.Core.List.{List, [], ◌∷◌}
use lib.ListN.{length}
use Rattle.tree.specs.declared.Row.{Row}
use Rattle.tree.specs.Tree.{row}
use Rattle.tree.specs.Record.{row_at, path_at}
use Rattle.paths.specs.Rules.{row_of, set_line, split_path}
use Rattle.paths.proofs.RowLaws.{line_row}
use Rattle.booking.specs.Writing.{set_row, SplittableOnLine}
use Rattle.booking.proofs.RecordRows.{set_row_size, set_row_here, set_row_other_line, set_row_other_row}
use Rattle.booking.proofs.SetLine.{is_set_line}

-- above the level the rows are as they were
pub split_row_above : (l d k : ℕ) (rs : List Row) → k < l → row_of k (split_path l d rs) ≡ row_of k rs
unfolding split_path row_of
split_row_above zero d k rs h = absurd (omega arith)
split_row_above (suc l) d k [] h = refl
split_row_above (suc l) d zero (r ∷ rs) h = refl
split_row_above (suc l) d (suc k) (r ∷ rs) h = split_row_above l d k rs (omega arith)

-- the node of weight d
pub split_row_at : (l d : ℕ) (rs : List Row) → l < length rs → row_of l (split_path l d rs) ≡ row d ((row_of l rs).edge % d)
unfolding split_path row_of
split_row_at l d [] h = absurd (omega arith)
split_row_at zero d (r ∷ rs) h = refl
split_row_at (suc l) d (r ∷ rs) h = split_row_at l d rs (omega arith)

-- the node of its group
split_row_below : (l d : ℕ) (rs : List Row) → l < length rs → row_of (suc l) (split_path l d rs) ≡ row ((row_of l rs).weight / d) ((row_of l rs).edge / d)
unfolding split_path row_of
split_row_below l d [] h = absurd (omega arith)
split_row_below zero d (r ∷ rs) h = refl
split_row_below (suc l) d (r ∷ rs) h = split_row_below l d rs (omega arith)

-- the rows after it have moved down by one
split_row_moved : (l d k : ℕ) (rs : List Row) → l < length rs → l < k → row_of (suc k) (split_path l d rs) ≡ row_of k rs
unfolding split_path row_of
split_row_moved l d k [] h after = absurd (omega arith)
split_row_moved l d zero (r ∷ rs) h after = absurd (omega arith)
split_row_moved zero d (suc k) (r ∷ rs) h after = refl
split_row_moved (suc l) d (suc k) (r ∷ rs) h after = split_row_moved l d k rs (omega arith) (omega arith)

-- the rows of line L from row k on, which are after row l + 1, have moved down by one, all others are as they were
pub record Moved (start rows : List ℕ) (L l k : ℕ) : Type 0 where
  pub after_group : l + 2 ≤ k
  pub size : length rows ≡ 1408
  pub moved : (j : ℕ) → k ≤ suc j → suc j < 11 → row_at rows L (suc j) ≡ row_at start L j
  pub kept : (j : ℕ) → j < k → row_at rows L j ≡ row_at start L j
  pub others : (M j : ℕ) → (M ≡ L → ⊥) → j < 11 → row_at rows M j ≡ row_at start M j

pub moved_none : {start : List ℕ} {L l d : ℕ} → length start ≡ 1408 → SplittableOnLine start L l d → Moved start start L l 11
moved_none size splittable = record {
  after_group = omega (arith, splittable.on_path, splittable.row_left.short);
  size = size;
  moved = λ j past within. absurd (omega arith);
  kept = λ j h. refl;
  others = λ M j other h. refl;
}

module _ {start rows : List ℕ} {L l k : ℕ} (so_far : Moved start rows L l k) (below : L < 64) where
  -- the row before moves to row k - 1
  pub moved_more : {r : Row} {new : List ℕ} → l + 2 < k → k ≤ 11 → r ≡ row_at rows L (k - 1 - 1) → new ≡ set_row rows L (k - 1) r → Moved start new L l (k - 1)
  moved_more {r} above within read put = rw put record {
    after_group = omega arith;
    size = set_row_size rows L (k - 1) r ∙ so_far.size;
    moved = λ j past h. here j past h (ℕ_discrete (suc j) (k - 1));
    kept = λ j h. set_row_other_row rows L (k - 1) r j (λ e. omega arith) ∙ so_far.kept j (omega arith);
    others = λ M j other h. set_row_other_line rows L (k - 1) r M j other (omega arith) h ∙ so_far.others M j other h;
  }
    where
      here : (j : ℕ) → k - 1 ≤ suc j → suc j < 11 → Dec (suc j ≡ k - 1) → row_at (set_row rows L (k - 1) r) L (suc j) ≡ row_at start L j
      here j past h (no other) = set_row_other_row rows L (k - 1) r (suc j) other ∙ so_far.moved j (omega arith) h
      here j past h (yes e) =
          let before : k - 1 - 1 ≡ j = omega arith in
          rw (e, set_row_here rows L (k - 1) r so_far.size below (omega arith), read, before) (so_far.kept j (omega arith))

  -- The loop has come to the level: the two nodes are written where the one stood.

  module _ {d : ℕ} {node : Row} (at_level : k ≤ l + 2) (splittable : SplittableOnLine start L l d) (size : length start ≡ 1408) (read : node ≡ row_at start L l) where
    abbrev with_group : List ℕ
    with_group = set_row rows L (l + 1) (row (node.weight / d) (node.edge / d))

    abbrev with_both : List ℕ
    with_both = set_row with_group L l (row d (node.edge % d))

    with_group_size : length with_group ≡ 1408
    with_group_size = set_row_size rows L (l + 1) _ ∙ so_far.size

    level_below_10 : l < 10
    level_below_10 = omega (arith, splittable.on_path, splittable.row_left.short)

    -- the line's row before the split, as its path has it
    row_before : (k : ℕ) → k < 11 → row_at start L k ≡ row_of k (path_at start L)
    row_before = line_row start L splittable.row_left.rest_is_unused

    node_before : node ≡ row_of l (path_at start L)
    node_before = read ∙ row_before l (omega (arith, level_below_10))

    -- a row that is neither of the two nodes
    row_beside : (j : ℕ) → (j ≡ l → ⊥) → (j ≡ l + 1 → ⊥) → row_at with_both L j ≡ row_at rows L j
    row_beside j no_node no_group = set_row_other_row with_group L l _ j no_node ∙ set_row_other_row rows L (l + 1) _ j no_group

    row_written : (j : ℕ) → j < 11 → Dec (j < l) → Dec (j ≡ l) → Dec (j ≡ l + 1) → row_at with_both L j ≡ row_of j (split_path l d (path_at start L))
    row_written j within (yes above) e g =
        row_beside j (λ e. omega arith) (λ g. omega arith)
        ∙ so_far.kept j (omega (arith, so_far.after_group))
        ∙ row_before j within
        ∙ sym (split_row_above l d j (path_at start L) above)
    row_written j within (no other) (yes e) g =
        rw (e, split_row_at l d (path_at start L) splittable.on_path, ← node_before) (set_row_here with_group L l _ with_group_size below (omega arith))
    row_written j within (no other) (no e) (yes g) =
        set_row_other_row with_group L l _ j e
        ∙ rw (g, add-one, split_row_below l d (path_at start L) splittable.on_path, ← node_before) (set_row_here rows L (suc l) _ so_far.size below (omega arith))
    row_written zero within (no other) (no e) (no g) = absurd (omega arith)
    row_written (suc j) within (no other) (no e) (no g) =
        row_beside (suc j) e g
        ∙ so_far.moved j (omega arith) within
        ∙ row_before j (omega arith)
        ∙ sym (split_row_moved l d j (path_at start L) splittable.on_path (omega arith))

    pub split_written : with_both ≡ set_line start L (split_path l d (path_at start L))
    split_written =
        is_set_line start size L below _ with_both (set_row_size with_group L l _ ∙ with_group_size)
        (λ j within. row_written j within (dec_lt j l) (ℕ_discrete j l) (ℕ_discrete j (l + 1)))
        (λ M j other within.
        set_row_other_line with_group L l _ M j other (omega (arith, level_below_10)) within
        ∙ set_row_other_line rows L (l + 1) _ M j other (omega (arith, level_below_10)) within
        ∙ so_far.others M j other within)
