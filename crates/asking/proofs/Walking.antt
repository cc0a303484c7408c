-- The walk over the paths (crate paths, specs/Rules.antt), one node at a time.
-- Assumes nothing.
use Prim.Native.Nat.{ℕ, suc, ◌+◌, ◌-◌, ◌/◌, ◌%◌, ◌<◌}
use native.Mathlib.Omega.{arith}
use native.Mathlib.Numerals.{add-one}
use mathlib.Core.Path.{◌≡◌}
use mathlib.Core.Bool.{true, false, and-eq-true_iff}
use mathlib.Core.List.{List}
use Rattle.std.specs.Prelude.{Option, None, Some}
use lib.Dec.{eqb}
use lib.ListN.{length}
use borrow.Author.Tests.{eqb-true, eqb-false, not-true}
use Rattle.tree.specs.declared.Row.{Row}
use Rattle.tree.specs.Record.{row_at, path_at}
use Rattle.paths.specs.Rules.{Family, row_of, same_node, line_under, walk_on_paths, owner_on_paths}
use Rattle.tree.proofs.Searching.{smallest_some}
use Rattle.paths.proofs.PathRows.{weight_in_path, weight_read}
use Rattle.paths.proofs.SameNode.{same_node_goes_on}
use Rattle.paths.proofs.RowLaws.{some_rows}
use Rattle.asking.specs.Answers.{first_open}

-- line N was found under edge e of the node at level l of path ps
module _ (family : Family) (ps : List Row) (l e N : ℕ) (under : line_under family ps l e ≡ Some N) where
  -- its path goes through the node and takes that edge
  pub line_under_takes : (same_node l ps (family N) ≡ true) × ((row_of l (family N)).edge ≡ e)
  unfolding line_under
  line_under_takes =
      let both = (and-eq-true_iff (same_node l ps (family N)) (eqb (row_of l (family N)).edge e)).0 (smallest_some 64 _ N under).passes in
      (both.0, eqb-true (row_of l (family N)).edge e both.1)

  -- it is one of the 64
  pub line_under_within : (N < 64) × (l < length (family N))
  unfolding line_under
  line_under_within = ((smallest_some 64 _ N under).in_range, (same_node_goes_on l ps (family N) line_under_takes.0).1)

  -- where the path does not end there, it goes through the next node too
  pub through_next : eqb (length (family N)) (suc l) ≡ false → l + 1 < length (family N)
  through_next ends = let through = line_under_within.1 in omega (arith, eqb-false (length (family N)) (suc l) ends)

-- w was read as the weight of the node at level l of line M's path
pub weight_above_0 : (rows : List ℕ) (M : ℕ) {l w : ℕ} → l < length (path_at rows M) → w ≡ (row_at rows M l).weight → 0 < w
weight_above_0 rows M below read = omega (arith, weight_in_path rows M below)

-- no nodes are left to go through
pub walk_over : (family : Family) (left M l n : ℕ) → left ≡ 0 → walk_on_paths family left M l n ≡ None
unfolding walk_on_paths
walk_over family left M l n over = rw over

-- the weight was read, and there are nodes left to go through
module _ (rows : List ℕ) (left M l n : ℕ) (goes_on : left ≡ 0 → ⊥) (below : l < length (path_at rows M)) {w : ℕ} (read : w ≡ (row_at rows M l).weight) where
  one_node : left ≡ suc (left - 1)
  one_node = omega (arith, goes_on)

  selected : {o : Option ℕ} → line_under (path_at rows) (path_at rows M) l (n % w) ≡ o → line_under (path_at rows) (path_at rows M) l (n % (row_of l (path_at rows M)).weight) ≡ o
  selected under = rw (weight_read rows M below read) under

  pub walk_idle : line_under (path_at rows) (path_at rows M) l (n % w) ≡ None → walk_on_paths (path_at rows) left M l n ≡ None
  unfolding walk_on_paths
  walk_idle under = rw (one_node, selected under, walk_on_paths)

  -- line N was found under the selected edge
  module _ (N : ℕ) (under : line_under (path_at rows) (path_at rows M) l (n % w) ≡ Some N) where
    pub walk_to_line : eqb (length (path_at rows N)) (suc l) ≡ true → walk_on_paths (path_at rows) left M l n ≡ Some N
    unfolding walk_on_paths
    walk_to_line ends = rw (one_node, selected under, walk_on_paths, ends)

    pub walk_to_node : eqb (length (path_at rows N)) (suc l) ≡ false → walk_on_paths (path_at rows) left M l n ≡ walk_on_paths (path_at rows) (left - 1) N (l + 1) (n / w)
    unfolding walk_on_paths
    walk_to_node ends = rw (one_node, selected under, walk_on_paths, ends, weight_read rows M below read, add-one l, ← one_node)

-- From the root

-- an open line's path has a root
pub first_open_within : (family : Family) (M : ℕ) → first_open family ≡ Some M → (M < 64) × (0 < length (family M))
unfolding first_open
first_open_within family M h =
    let found = smallest_some 64 _ M h in
    (found.in_range, some_rows (family M) (not-true _ found.passes))

pub owner_idle : (family : Family) (n : ℕ) → first_open family ≡ None → owner_on_paths family n ≡ None
unfolding owner_on_paths first_open
owner_idle family n h = rw (h, owner_on_paths)

pub owner_by_walk : (family : Family) (n M : ℕ) → first_open family ≡ Some M → owner_on_paths family n ≡ walk_on_paths family 11 M 0 n
unfolding owner_on_paths first_open
owner_by_walk family n M h = rw (h, owner_on_paths)
