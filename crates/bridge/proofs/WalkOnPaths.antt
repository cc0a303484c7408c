-- The walk over paths (`walk_on_paths` and `owner_on_paths` of crate paths, specs/Rules.antt) goes as the walk over the tree.
-- Assumes nothing.
use Rattle.std.specs.Prelude.{if◌then◌else◌, Option, None, Some}
use Prim.Native.Nat.{ℕ, zero, suc, ◌+◌, ◌/◌, ◌%◌, ◌<◌, ◌≤◌}
use native.Mathlib.Omega.{arith}
use native.Mathlib.Nat.{mod-lt}
use mathlib.Core.Path.{◌≡◌, refl, sym, ◌∙◌, ap}
use mathlib.Core.Bool.{Bool, true, false, not, true≢false, false≢true, not-eq-not, and-eq-true_iff}
use mathlib.Core.List.{List, [], ◌∷◌}
use Rattle.std.proofs.lemmas.Option.{none-some}
use lib.Dec.{eqb}
use lib.ListN.{length, drop}
use lib.Seq.{drop-length}
use borrow.Author.Tests.{eqb-true, eqb-false, eq-eqb, not-true, not-false}
use Rattle.tree.specs.declared.Row.{Row}
use Rattle.tree.specs.Search.{smallest}
use Rattle.tree.specs.Tree.{Tree, nothing, line, node, present, sum_from, sum, path, at_digits, at}
use Rattle.tree.specs.Shape.{Legal}
use Rattle.tree.specs.Asking.{owner}
use Rattle.tree.specs.Record.{no_rows}
use Rattle.paths.specs.Rules.{Family, row_of, same_node, line_under, walk_on_paths, owner_on_paths}
use Rattle.tree.proofs.Searching.{smallest_some, smallest_none}
use Rattle.tree.proofs.Standing.{path_of_line}
use Rattle.tree.proofs.Depth.{at_most_11_above}
use Rattle.paths.proofs.RowLaws.{some_rows}
use Rattle.paths.proofs.SameNode.{same_node_goes_on}
use Rattle.bridge.proofs.NodesOnPaths.{place_on, present_through, node_path, through_same_node}
use Rattle.bridge.proofs.ClassOnPaths.{PathsOf, path_family, family_path, node_on_path, same_node_under}
use Rattle.bridge.proofs.SameTree.{path_goes_on}

-- a path without rows leads to the line itself
path_ends_at_line : (N : ℕ) (t : Tree) → path N t ≡ Some [] → t ≡ line N
unfolding path
path_ends_at_line N nothing h = absurd (none-some [] h)
path_ends_at_line N (line n) h = ap line (path_of_line N n [] h).0
path_ends_at_line N (node w f) h = absurd (path_goes_on N w f h)

-- where nothing stands the walk finds no line
absent_no_owner : (n : ℕ) (t : Tree) → present t ≡ false → owner n t ≡ None
unfolding present owner
absent_no_owner n nothing h = refl
absent_no_owner n (line m) h = absurd (true≢false h)
absent_no_owner n (node w f) h = absurd (true≢false h)

-- the root of every plan but the empty one is a node
root_node : (t : Tree) → Legal t → present t ≡ true → (w : ℕ) × (f : ℕ → Tree) × (t ≡ node w f)
unfolding Legal present
root_node nothing legal here = absurd (false≢true here)
root_node (line n) legal here = absurd legal
root_node (node w f) legal here = (w, f, refl)

pub long_has_rows : (rs : List Row) → 0 < length rs → no_rows rs ≡ false
unfolding no_rows
long_has_rows [] long = absurd (omega arith)
long_has_rows (r ∷ rs) long = refl

module _ (t : Tree) (legal : Legal t) (family : Family) (paths : PathsOf t family) where
  -- From the node at level l of line M's path to what stands under an edge of it

  module _ (M l : ℕ) (below : M < 64) (long : l < length (family M)) where
    abbrev weight : ℕ
    weight = (row_of l (family M)).weight

    abbrev edges : ℕ → Tree
    edges = (node_on_path t family paths M l below long).edges

    node_is : at (place_on l (family M)) t ≡ node weight edges
    node_is = (node_on_path t family paths M l below long).node_is

    standing : path M t ≡ Some (family M)
    standing = family_path t family paths M l below long

    -- an edge that no line takes is absent
    none_under : (e n : ℕ) → e < weight → line_under family (family M) l e ≡ None → owner n (edges e) ≡ None
    unfolding line_under
    none_under e n edge_below h = absent_no_owner n (edges e) (not-eq-not.0 λ there.
        let x = present_through t legal (place_on l (family M)) weight edges node_is e edge_below there in
        let rows = path_family t family paths x.line x.rows x.line_below x.path_is in
        let untaken = smallest_none 64 _ h x.line x.line_below in
        true≢false (sym (rw (rows, through_same_node M t l (family M) standing long weight e x, x.row_is) (eq-eqb e e refl)) ∙ untaken))

    -- line N takes edge e of the node: what stands under that edge is line N or the node at the next level of its path
    record Taking (e N : ℕ) : Type 0 where
      line_below : N < 64
      level_below : l < length (family N)
      path_is : path N (edges e) ≡ Some (drop (suc l) (family N))
      below_is : at (place_on (suc l) (family N)) t ≡ edges e

    some_under : (e N : ℕ) → line_under family (family M) l e ≡ Some N → Taking e N
    unfolding line_under
    some_under e N h =
        let x = smallest_some 64 _ N h in
        let both = (and-eq-true_iff (same_node l (family M) (family N)) (eqb (row_of l (family N)).edge e)).0 x.passes in
        let goes_on = same_node_under t legal family paths M l below long N x.in_range both.0 in
        let edge : (row_of l (family N)).edge ≡ e = eqb-true (row_of l (family N)).edge e both.1 in
        record {
          line_below = x.in_range;
          level_below = (same_node_goes_on l (family M) (family N) both.0).1;
          path_is = rw edge at goes_on.1;
          below_is = rw edge at goes_on.2;
        }

    ends_at_edge : (e N k : ℕ) → Taking e N → length (family N) ≡ suc l → owner k (edges e) ≡ Some N
    unfolding owner
    ends_at_edge e N k x ends =
        let no_row : drop (suc l) (family N) ≡ [] = ap (λ (m : ℕ). drop m (family N)) (sym ends) ∙ drop-length (family N) in
        ap (owner k) (path_ends_at_line N (edges e) (x.path_is ∙ ap Some no_row))

    module _ (left : ℕ) (walk_below : (N k : ℕ) → N < 64 → suc l < length (family N) → walk_on_paths family left N (suc l) k ≡ owner k (at (place_on (suc l) (family N)) t)) where
      walk_under : (e N k : ℕ) → Taking e N → (if eqb (length (family N)) (suc l) then Some N else walk_on_paths family left N (suc l) k) ≡ owner k (edges e)
      walk_under e N k x = by_length (eqb (length (family N)) (suc l)) refl
        where
          by_length : (b : Bool) → eqb (length (family N)) (suc l) ≡ b → (if b then Some N else walk_on_paths family left N (suc l) k) ≡ owner k (edges e)
          by_length true same = sym (ends_at_edge e N k x (eqb-true (length (family N)) (suc l) same))
          by_length false other =
              let longer = eqb-false (length (family N)) (suc l) other in
              let level_below = x.level_below in
              walk_below N k x.line_below (omega arith) ∙ ap (owner k) x.below_is

      walk_from : (n : ℕ) → walk_on_paths family (suc left) M l n ≡ owner n (at (place_on l (family M)) t)
      unfolding walk_on_paths owner
      walk_from n = rw node_is (by_line (line_under family (family M) l (n % weight)) refl)
        where
          by_line : (o : Option ℕ) → line_under family (family M) l (n % weight) ≡ o → walk_on_paths family (suc left) M l n ≡ owner (n / weight) (edges (n % weight))
          by_line None h =
              let edge_below = (node_on_path t family paths M l below long).edge_below in
              rw (h, walk_on_paths) (sym (none_under (n % weight) (n / weight) (mod-lt n (omega arith)) h))
          by_line (Some N) h = rw (h, walk_on_paths) (walk_under (n % weight) N (n / weight) (some_under (n % weight) N h))

  -- at the node at level l of line M's path, if the walk may pass as many nodes as are left
  pub walk_is : (left M l n : ℕ) → M < 64 → l < length (family M) → 11 ≤ l + left → walk_on_paths family left M l n ≡ owner n (at (place_on l (family M)) t)
  walk_is zero M l n below long enough =
      absurd (omega (arith, at_most_11_above t M (family M) legal (family_path t family paths M l below long)))
  walk_is (suc left) M l n below long enough =
      walk_from M l below long left (λ N k N_below N_long. walk_is left N (suc l) k N_below N_long (omega arith)) n

  -- From the root

  -- every plan but the empty one holds a line
  no_line_no_owner : (n : ℕ) → smallest 64 (λ M. not (no_rows (family M))) ≡ None → owner n t ≡ None
  unfolding at at_digits
  no_line_no_owner n h = absent_no_owner n t (not-eq-not.0 λ here.
      let root = root_node t legal here in
      let x = (node_path t legal (record { level = 0; offset = 0 }) root.0 root.1 root.2).1 in
      let rows = path_family t family paths x.line x.rows x.line_below x.path_is in
      let closed = not-false (no_rows (family x.line)) (smallest_none 64 _ h x.line x.line_below) in
      true≢false (sym closed ∙ ap no_rows rows ∙ long_has_rows x.rows x.level_below))

  pub owner_is : (n : ℕ) → owner_on_paths family n ≡ owner n t
  unfolding owner_on_paths at at_digits sum sum_from
  owner_is n = by_line (smallest 64 (λ M. not (no_rows (family M)))) refl
    where
      by_line : (o : Option ℕ) → smallest 64 (λ M. not (no_rows (family M))) ≡ o → owner_on_paths family n ≡ owner n t
      by_line None h = rw (h, owner_on_paths) (sym (no_line_no_owner n h))
      by_line (Some M) h =
          let x = smallest_some 64 _ M h in
          rw (h, owner_on_paths) (walk_is 11 M 0 n x.in_range (some_rows (family M) (not-true (no_rows (family M)) x.passes)) (omega arith))
