-- A record and its tree: the record of a legal tree has that tree, and a legal record is the record of its tree.
-- So equal trees are equal records.
-- Assumes nothing.
use Rattle.std.specs.Prelude.{if◌then◌else◌, Option, None, Some, unwrap_or}
use Prim.Native.Nat.{ℕ, ◌<◌, ◌≤◌}
use native.Mathlib.Omega.{arith}
use native.Mathlib.Decide.{dec_lt}
use mathlib.Core.Path.{◌≡◌, refl, sym, ◌∙◌, ap, ap₂}
use mathlib.Core.Bool.{true, false, ◌&&◌, and-eq-true_iff, or-true}
use mathlib.Core.List.{List, [], ◌∷◌}
use Rattle.std.proofs.lemmas.Option.{none-some}
use lib.ListN.{length}
use Rattle.tree.specs.declared.Row.{Row}
use Rattle.tree.specs.declared.Plan.{Plan}
use Rattle.tree.specs.Search.{all_below}
use Rattle.tree.specs.Tree.{Tree, nothing, line, node, product, sum, path, path_of}
use Rattle.tree.specs.Shape.{Legal}
use Rattle.tree.specs.Record.{path_at, rows_in_range, alone, path_in_range, rest_unused, no_rows, parts, together, legal, tree_of, record_of}
use Rattle.tree.proofs.Searching.{all_below_each}
use Rattle.tree.proofs.Proper.{legal_proper}
use Rattle.tree.proofs.Depth.{at_most_11_above}
use Rattle.tree.proofs.Numbering.{stands_number}
use Rattle.tree.proofs.Standing.{path_stands, path_below}
use Rattle.bridge.proofs.WrittenPaths.{Weighted, Written}
use Rattle.paths.proofs.Blocks.{rows_by_blocks}
use Rattle.bridge.proofs.RecordBlocks.{record_length, block_of_record}
use Rattle.bridge.proofs.BlockPaths.{path_of_block, rest_unused_of_block}
use Rattle.bridge.proofs.SameTree.{same_paths_same_tree}
use Rattle.bridge.proofs.TreeOfRecord.{tree_of_legal, tree_of_path, tree_of_path_beyond}
use Rattle.paths.proofs.RangeLaws.{EdgesBelow, path_edges_below}
use Rattle.bridge.proofs.LegalPaths.{legal_path_in_range, paths_part}
use Rattle.bridge.proofs.ClearedRecord.{block_of_tree}

-- Paths of a legal tree

-- a path in range has no weight of 0
edges_weighted : (rs : List Row) → EdgesBelow rs → Weighted rs
unfolding EdgesBelow Weighted
edges_weighted [] h = tt
edges_weighted (r ∷ rs) h = let below = h.0 in (omega arith, edges_weighted rs h.1)

no_rows_in_range : path_in_range [] ≡ true
unfolding path_in_range alone rows_in_range product
no_rows_in_range = refl

-- paths that part go together
parts_together : (ps qs : List Row) → parts ps qs ≡ true → together ps qs ≡ true
unfolding together
parts_together ps qs h = rw (h, or-true, or-true)

-- a line of a legal tree has a node above it
pub path_has_rows : (t : Tree) (M : ℕ) (rs : List Row) → Legal t → path M t ≡ Some rs → no_rows rs ≡ false
unfolding Legal path no_rows
path_has_rows nothing M rs is_legal h = absurd (none-some rs h)
path_has_rows (line n) M rs is_legal h = absurd is_legal
path_has_rows (node w f) M rs is_legal h = ap no_rows (path_below M w f rs h).rows_are

pub beyond_no_path : (t : Tree) (M : ℕ) → Legal t → 64 ≤ M → path M t ≡ None
beyond_no_path t M is_legal beyond = by_path (path M t) refl
  where
    by_path : (o : Option (List Row)) → path M t ≡ o → path M t ≡ None
    by_path None e = e
    by_path (Some rs) e =
        let most = stands_number M t (product rs) (sum rs) is_legal (path_stands M t rs e) in
        absurd (omega arith)

module _ (t : Tree) (is_legal : Legal t) where
  pub path_of_written : (M : ℕ) → Written (path_of M t)
  unfolding path_of Weighted
  path_of_written M = by_path (path M t) refl
    where
      by_path : (o : Option (List Row)) → path M t ≡ o → Written (unwrap_or o [])
      by_path None e = record { at_most_11 = omega arith; weighted = tt }
      by_path (Some rs) e =
          record {
            at_most_11 = at_most_11_above t M rs is_legal e;
            weighted = edges_weighted rs (path_edges_below rs (legal_path_in_range t M rs is_legal e));
          }

  path_of_in_range : (M : ℕ) → path_in_range (path_of M t) ≡ true
  unfolding path_of
  path_of_in_range M = by_path (path M t) refl
    where
      by_path : (o : Option (List Row)) → path M t ≡ o → path_in_range (unwrap_or o []) ≡ true
      by_path None e = no_rows_in_range
      by_path (Some rs) e = legal_path_in_range t M rs is_legal e

  paths_together : (M N : ℕ) → (M ≡ N → ⊥) → together (path_of M t) (path_of N t) ≡ true
  unfolding path_of together no_rows
  paths_together M N other = by_paths (path M t) refl (path N t) refl
    where
      by_paths : (o : Option (List Row)) → path M t ≡ o → (p : Option (List Row)) → path N t ≡ p → together (unwrap_or o []) (unwrap_or p []) ≡ true
      by_paths None e p k = refl
      by_paths (Some rs) e None k = or-true (no_rows rs)
      by_paths (Some rs) e (Some qs) k = parts_together rs qs (paths_part t M N rs qs other e k)

  -- The record of the tree

  -- its paths are those of the tree
  pub record_path : (M : ℕ) → M < 64 → path_at (record_of t).rows M ≡ path_of M t
  record_path M below = path_of_block (record_of t).rows M (path_of M t) (path_of_written M) (block_of_record t M below)

  pub record_legal : legal (record_of t).rows ≡ true
  unfolding legal
  record_legal = (and-eq-true_iff _ _).1 (all_below_each 64 _ each, all_below_each 64 _ pairs)
    where
      rows : List ℕ
      rows = (record_of t).rows

      each : (L : ℕ) → L < 64 → (path_in_range (path_at rows L) && rest_unused rows L) ≡ true
      each L below =
          (and-eq-true_iff (path_in_range (path_at rows L)) (rest_unused rows L)).1 (
            ap path_in_range (record_path L below) ∙ path_of_in_range L,
            rest_unused_of_block rows L (path_of L t) (path_of_written L) (block_of_record t L below),
          )

      pairs : (L : ℕ) → L < 64 → all_below L (λ M. together (path_at rows M) (path_at rows L)) ≡ true
      pairs L below =
          all_below_each L _ (λ M earlier.
          ap₂ together (record_path M (omega arith)) (record_path L below) ∙ paths_together M L (λ same. omega arith))

  -- it has that tree
  pub record_has_tree : tree_of (record_of t) ≡ t
  unfolding path_of no_rows
  record_has_tree =
      same_paths_same_tree (tree_of (record_of t)) t (legal_proper (tree_of (record_of t)) (tree_of_legal (record_of t))) (legal_proper t is_legal) same_path
    where
      held : (M : ℕ) (o : Option (List Row)) → path M t ≡ o → (if no_rows (unwrap_or o []) then None else Some (unwrap_or o [])) ≡ o
      held M None e = refl
      held M (Some rs) e = rw (path_has_rows t M rs is_legal e)

      same_path : (M : ℕ) → path M (tree_of (record_of t)) ≡ path M t
      same_path M =
          elim (dec_lt M 64) [
            | yes below ↦
                tree_of_path (record_of t) M record_legal below
                ∙ ap (λ (rs : List Row). if no_rows rs then None else Some rs) (record_path M below)
                ∙ held M (path M t) refl
            | no beyond ↦ tree_of_path_beyond (record_of t) M (omega arith) ∙ sym (beyond_no_path t M is_legal (omega arith))
          ]

-- a legal record is the record of its tree
pub tree_has_record : (plan : Plan) → legal plan.rows ≡ true → length plan.rows ≡ 1408 → record_of (tree_of plan) ≡ plan
tree_has_record plan is_legal long =
    let same =
    rows_by_blocks (record_of (tree_of plan)).rows plan.rows (record_length (tree_of plan)) long
    (λ L below. block_of_record (tree_of plan) L below ∙ sym (block_of_tree plan L is_legal long below)) in
    λ i. record { rows = same i }

-- so equal trees are equal records
pub same_tree_same_record : (plan other : Plan) → legal plan.rows ≡ true → legal other.rows ≡ true → length plan.rows ≡ 1408 → length other.rows ≡ 1408 →
    tree_of plan ≡ tree_of other → plan ≡ other
same_tree_same_record plan other legal_one legal_other long_one long_other same =
    sym (tree_has_record plan legal_one long_one) ∙ ap record_of same ∙ tree_has_record other legal_other long_other
