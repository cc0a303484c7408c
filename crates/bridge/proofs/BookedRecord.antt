-- The record of an opened tree: what the code writes into the record of the tree before (`booked_at` of crate paths, specs/Rules.antt).
-- Assumes nothing.
use Rattle.std.specs.Prelude.{if◌then◌else◌, Option, None, Some, unwrap_or}
use Prim.Native.Nat.{ℕ, ◌*◌, ◌/◌, ◌<◌}
use native.Mathlib.Omega.{arith}
use mathlib.Core.Path.{◌≡◌, refl, sym, ◌∙◌, ap, subst}
use mathlib.Core.Bool.{Bool, true, false, true≢false}
use mathlib.Core.List.{List, []}
use lib.Dec.{ltb}
use lib.ListN.{length, take}
use Rattle.tree.specs.declared.Row.{Row}
use Rattle.tree.specs.declared.Plan.{Plan}
use Rattle.tree.specs.Tree.{Tree, present, path, path_of}
use Rattle.tree.specs.Opening.{start_at, opened, start_in, start_given}
use Rattle.tree.specs.Asking.{rows_11}
use Rattle.tree.specs.Record.{path_at, legal, tree_of, numbers, record_of}
use Rattle.paths.specs.Rules.{row_of, same_node, Spot, place_of, spot_start, split_path, split_lines, booked_path, booked_at}
use Rattle.tree.proofs.Standing.{path_stands}
use Rattle.tree.proofs.UnderEdge.{stands_present}
use Rattle.tree.proofs.Opening.{MayOpen, opened_legal}
use Rattle.paths.proofs.SameNode.{same_node_none}
use Rattle.paths.proofs.ChangedLines.{set_lines_length, block_changed}
use Rattle.paths.proofs.Blocks.{block}
use Rattle.bridge.proofs.RecordBlocks.{set_line_record}
use Rattle.bridge.proofs.TreeOfRecord.{tree_of_paths}
use Rattle.bridge.proofs.NodesOnPaths.{same_node_exactly}
use Rattle.bridge.proofs.ClassOnPaths.{path_family, family_path}
use Rattle.bridge.proofs.SearchOnPaths.{FoundSpot}
use Rattle.bridge.proofs.RouteOpening.{opened_path_new, opened_path_through, opened_path_beside, opened_path_none}
use Rattle.bridge.proofs.WrittenPaths.{Written}
use Rattle.bridge.proofs.BlockPaths.{path_of_block}
use Rattle.bridge.proofs.ClearedRecord.{legal_block}
use Rattle.bridge.proofs.RecordRoundTrip.{path_of_written}

module _ (plan : Plan) (L p : ℕ) (s : Spot) (is_legal : legal plan.rows ≡ true) (long : length plan.rows ≡ 1408)
    (may : MayOpen L p (tree_of plan)) (found_spot : FoundSpot p (tree_of plan) (path_at plan.rows) s) where
  abbrev t : Tree
  t = tree_of plan

  abbrev ps : List Row
  ps = path_at plan.rows s.line

  abbrev weight : ℕ
  weight = (row_of s.level ps).weight

  -- the path of another line afterwards
  abbrev pub path_after : List Row → List Row
  path_after rs = if same_node s.level ps rs then (if ltb s.divisor weight then split_path s.level s.divisor rs else rs) else rs

  line_path : path s.line t ≡ Some ps
  line_path = family_path t (path_at plan.rows) (tree_of_paths plan is_legal) s.line s.level found_spot.line_below found_spot.level_below

  -- what a line through the node becomes, by the spot's own divisor
  pub through_path : (M : ℕ) (rs : List Row) → path M t ≡ Some rs → same_node s.level ps rs ≡ true →
      path M (opened L p t) ≡ Some (if ltb s.divisor weight then split_path s.level s.divisor rs else rs)
  unfolding place_of
  through_path M rs e h =
      let through = (same_node_exactly s.line M t s.level ps rs line_path e found_spot.level_below).0 h in
      subst (λ (d : ℕ). path M (opened L p t) ≡ Some (if ltb d weight then split_path s.level d rs else rs)) (sym found_spot.divisor_is)
      (opened_path_through L p t (place_of s) weight found_spot.node.0 may found_spot.chosen_is found_spot.node.1 M rs e (through.0 ∙ sym found_spot.rows_above) through.1)

  beside_path : (M : ℕ) (rs : List Row) → path M t ≡ Some rs → same_node s.level ps rs ≡ false → path M (opened L p t) ≡ Some rs
  unfolding place_of
  beside_path M rs e h =
      opened_path_beside L p t (place_of s) weight found_spot.node.0 may found_spot.chosen_is found_spot.node.1 M rs e
      (λ above long_enough. true≢false (sym ((same_node_exactly s.line M t s.level ps rs line_path e found_spot.level_below).1 (above ∙ found_spot.rows_above, long_enough)) ∙ h))

  path_after_through : (rs : List Row) → same_node s.level ps rs ≡ true → path_after rs ≡ (if ltb s.divisor weight then split_path s.level s.divisor rs else rs)
  path_after_through rs h = rw h

  path_after_beside : (rs : List Row) → same_node s.level ps rs ≡ false → path_after rs ≡ rs
  path_after_beside rs h = rw h

  open_path_after : (M : ℕ) (rs : List Row) → path M t ≡ Some rs → path M (opened L p t) ≡ Some (path_after rs)
  open_path_after M rs e = by_test (same_node s.level ps rs) refl
    where
      by_test : (b : Bool) → same_node s.level ps rs ≡ b → path M (opened L p t) ≡ Some (path_after rs)
      by_test true h = through_path M rs e h ∙ ap Some (sym (path_after_through rs h))
      by_test false h = beside_path M rs e h ∙ ap Some (sym (path_after_beside rs h))

  other_path : (M : ℕ) → M < 64 → (M ≡ L → ⊥) → path_of M (opened L p t) ≡ path_after (path_at plan.rows M)
  unfolding path_of
  other_path M below other = by_path (path M t) refl
    where
      by_path : (o : Option (List Row)) → path M t ≡ o → unwrap_or (path M (opened L p t)) [] ≡ path_after (path_at plan.rows M)
      by_path None e =
          let empty : path_at plan.rows M ≡ [] = tree_of_paths plan is_legal M below ∙ ap (λ (o : Option (List Row)). unwrap_or o []) e in
          ap (λ (o : Option (List Row)). unwrap_or o []) (opened_path_none L p t may M other e)
          ∙ sym (ap path_after empty ∙ path_after_beside [] (same_node_none s.level ps))
      by_path (Some rs) e =
          let same = path_family t (path_at plan.rows) (tree_of_paths plan is_legal) M rs below e in
          ap (λ (o : Option (List Row)). unwrap_or o []) (open_path_after M rs e) ∙ ap path_after (sym same)

  pub new_line_path : path L (opened L p t) ≡ Some (booked_path (take s.level ps) s.divisor s.class (p / (s.step * s.divisor)))
  new_line_path =
      let new = opened_path_new L p t (place_of s) weight found_spot.node.0 may found_spot.chosen_is found_spot.node.1 in
      new ∙ cc

  new_path : path_of L (opened L p t) ≡ booked_path (take s.level ps) s.divisor s.class (p / (s.step * s.divisor))
  unfolding path_of
  new_path = ap (λ (o : Option (List Row)). unwrap_or o []) new_line_path

  -- the record before the new line is placed
  abbrev pub split_rows : List ℕ
  split_rows = if ltb s.divisor weight then split_lines plan.rows ps s.level s.divisor 64 else plan.rows

  pub split_rows_length : length split_rows ≡ 1408
  split_rows_length = by_test (ltb s.divisor weight)
    where
      by_test : (b : Bool) → length (if b then split_lines plan.rows ps s.level s.divisor 64 else plan.rows) ≡ 1408
      by_test true = set_lines_length plan.rows _ _ long 64 (omega arith)
      by_test false = long

  block_before : (M : ℕ) → M < 64 → block split_rows M ≡ numbers (rows_11 (path_after (path_at plan.rows M)))
  block_before M below = by_split (ltb s.divisor weight)
    where
      rs : List Row
      rs = path_at plan.rows M

      here : block plan.rows M ≡ numbers (rows_11 rs)
      here = legal_block plan.rows M is_legal long below

      by_node : (b : Bool) → (if b then numbers (rows_11 (split_path s.level s.divisor rs)) else block plan.rows M) ≡ numbers (rows_11 (if b then split_path s.level s.divisor rs else rs))
      by_node true = refl
      by_node false = here

      either : (b : Bool) → numbers (rows_11 rs) ≡ numbers (rows_11 (if b then rs else rs))
      either true = refl
      either false = refl

      by_split : (b : Bool) → block (if b then split_lines plan.rows ps s.level s.divisor 64 else plan.rows) M
          ≡ numbers (rows_11 (if same_node s.level ps rs then (if b then split_path s.level s.divisor rs else rs) else rs))
      by_split true = block_changed plan.rows _ _ long 64 M (omega arith) below ∙ by_node (same_node s.level ps rs)
      by_split false = here ∙ either (same_node s.level ps rs)

  -- the paths of that record
  pub split_path_at : (M : ℕ) → M < 64 → (M ≡ L → ⊥) → path_at split_rows M ≡ path_after (path_at plan.rows M)
  split_path_at M below other =
      path_of_block split_rows M (path_after (path_at plan.rows M))
      (subst Written (other_path M below other) (path_of_written (opened L p t) (opened_legal L p t may) M)) (block_before M below)

  pub booked_record : booked_at plan.rows L p s ≡ (record_of (opened L p t)).rows
  unfolding booked_at
  booked_record =
      set_line_record split_rows L _ (opened L p t) (omega (arith, may.number_in_range)) split_rows_length (sym new_path) λ M below other.
      block_before M below ∙ ap (λ (rs : List Row). numbers (rows_11 rs)) (sym (other_path M below other))

  -- the line whose path goes through the spot stands in the tree
  pub spot_present : present t ≡ true
  spot_present = stands_present s.line t _ _ (path_stands s.line t ps line_path)

  -- the start that the code answers
  pub booked_start : spot_start s ≡ start_given p t
  unfolding spot_start start_given start_in start_at place_of
  booked_start = rw (spot_present, found_spot.chosen_is) (cc)
