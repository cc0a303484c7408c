-- Legality line by line, and what a legal record says of each line and of each two.
-- Assumes nothing.
use Rattle.std.specs.Prelude.{if◌then◌else◌, None, Some}
use Prim.Native.Nat.{ℕ, ◌<◌}
use mathlib.Core.Path.{◌≡◌, refl, sym, ◌∙◌}
use mathlib.Core.Bool.{Bool, true, false, ◌&&◌, or-true, and-true, and-eq-true_iff, false≢true}
use mathlib.Core.List.{List, [], ◌∷◌}
use lib.ListN.{length}
use Rattle.tree.specs.declared.Row.{Row}
use Rattle.tree.specs.Search.{all_below}
use Rattle.tree.specs.Tree.{product}
use Rattle.tree.specs.Record.{path_at, alone, rows_in_range, path_in_range, rest_unused, no_rows, parts, together, legal}
use Rattle.std.proofs.lemmas.Option.{none-some, same_Some}
use Rattle.paths.specs.Answers.{path_checked, joins_earlier, line_legal}
use Rattle.tree.proofs.Searching.{all_below_at, all_below_each}
use Rattle.paths.proofs.AllBelow.{all_below_and}

-- The record is a tree exactly where each line is right, by itself and beside the earlier ones.
pub legal_by_lines : (rows : List ℕ) → legal rows ≡ all_below 64 (line_legal rows)
unfolding legal line_legal joins_earlier
legal_by_lines rows = all_below_and 64 (λ L. path_in_range (path_at rows L) && rest_unused rows L) (λ L. all_below L (λ M. together (path_at rows M) (path_at rows L)))

module _ (rows : List ℕ) (is_legal : legal rows ≡ true) (L : ℕ) (below : L < 64) where
  by_itself_and_beside : (path_in_range (path_at rows L) && rest_unused rows L ≡ true) × (joins_earlier rows L ≡ true)
  unfolding line_legal
  by_itself_and_beside = (and-eq-true_iff _ _).0 (all_below_at 64 (line_legal rows) (sym (legal_by_lines rows) ∙ is_legal) L below)

  pub legal_in_range : path_in_range (path_at rows L) ≡ true
  legal_in_range = ((and-eq-true_iff (path_in_range (path_at rows L)) (rest_unused rows L)).0 by_itself_and_beside.0).0

  pub legal_rest_unused : rest_unused rows L ≡ true
  legal_rest_unused = ((and-eq-true_iff (path_in_range (path_at rows L)) (rest_unused rows L)).0 by_itself_and_beside.0).1

  pub legal_together : (M : ℕ) → M < L → together (path_at rows M) (path_at rows L) ≡ true
  unfolding joins_earlier
  legal_together M earlier = all_below_at L (λ J. together (path_at rows J) (path_at rows L)) by_itself_and_beside.1 M earlier

-- Two lines together

pub closed_together : (ps qs : List Row) → no_rows ps ≡ true → together ps qs ≡ true
unfolding together
closed_together ps qs h = rw h

pub together_closed : (ps qs : List Row) → no_rows qs ≡ true → together ps qs ≡ true
unfolding together
together_closed ps qs h = rw (h, or-true)

pub open_together : (ps qs : List Row) → no_rows ps ≡ false → no_rows qs ≡ false → together ps qs ≡ parts ps qs
unfolding together
open_together ps qs p q = rw (p, q)

-- line M goes together with line L
abbrev pub goes_with : List ℕ → ℕ → ℕ → Bool
goes_with rows L M = together (path_at rows M) (path_at rows L)

-- a closed line goes together with every line
pub closed_joins : (rows : List ℕ) (L : ℕ) → no_rows (path_at rows L) ≡ true → joins_earlier rows L ≡ true
unfolding joins_earlier
closed_joins rows L h = all_below_each L _ (λ M below. together_closed (path_at rows M) (path_at rows L) h)

-- One line

faulty : (b : Bool) (n : ℕ) → (if b then Some n else None) ≡ None → b ≡ false
faulty true n h = absurd (none-some n (sym h))
faulty false n h = refl

right : (b : Bool) (m n : ℕ) → (if b then Some m else None) ≡ Some n → (b ≡ true) × (n ≡ m)
right true m n h = (refl, same_Some n m (sym h))
right false m n h = absurd (none-some n h)

pub path_fault : (rs : List Row) → path_checked rs ≡ None → path_in_range rs ≡ false
unfolding path_checked
path_fault rs h = faulty (path_in_range rs) (length rs) h

pub path_right : (rs : List Row) (n : ℕ) → path_checked rs ≡ Some n → (path_in_range rs ≡ true) × (n ≡ length rs)
unfolding path_checked
path_right rs n h = right (path_in_range rs) (length rs) n h

closed_in_range : (rs : List Row) → no_rows rs ≡ true → path_in_range rs ≡ true
unfolding no_rows path_in_range alone rows_in_range product
closed_in_range [] h = refl
closed_in_range (r ∷ rs) h = absurd (false≢true h)

module _ (rows : List ℕ) (L : ℕ) where
  -- a closed line
  pub line_closed : no_rows (path_at rows L) ≡ true → line_legal rows L ≡ rest_unused rows L
  unfolding line_legal
  line_closed h = rw (closed_in_range (path_at rows L) h, closed_joins rows L h, and-true)

  pub line_fault : path_checked (path_at rows L) ≡ None → line_legal rows L ≡ false
  unfolding line_legal
  line_fault h = rw (path_fault _ h)

  module _ (n : ℕ) (checked : path_checked (path_at rows L) ≡ Some n) where
    pub line_rest_fault : rest_unused rows L ≡ false → line_legal rows L ≡ false
    unfolding line_legal
    line_rest_fault h = rw ((path_right _ _ checked).0, h)

    pub line_by_earlier : rest_unused rows L ≡ true → line_legal rows L ≡ joins_earlier rows L
    unfolding line_legal
    line_by_earlier h = rw ((path_right _ _ checked).0, h)
