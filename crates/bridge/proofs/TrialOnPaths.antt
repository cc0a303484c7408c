-- What a trial counts on the paths (`trial_at` of crate paths, specs/Rules.antt) are the figures of the open at the chosen candidate.
-- Assumes nothing.
use Prim.Native.Nat.{ℕ}
use mathlib.Core.Path.{◌≡◌, sym, ◌∙◌, ap, fun_ext}
use mathlib.Core.Bool.{true, not, not-not}
use lib.Dec.{ltb}
use lib.ListN.{length}
use Rattle.tree.specs.declared.Plan.{Plan}
use Rattle.tree.specs.Search.{count_below}
use Rattle.tree.specs.Tree.{Tree, present, sum, Place, at, way}
use Rattle.tree.specs.Opening.{free}
use Rattle.tree.specs.Trial.{is_split, split_in, trial}
use Rattle.tree.specs.Record.{path_at, legal, tree_of}
use Rattle.paths.specs.Rules.{Family, row_of, class_taken, classes_taken, own_nodes, Spot, place_of, trial_at}
use Rattle.tree.proofs.Opening.{MayOpen}
use Rattle.tree.proofs.NodesAdded.{nodes_added, nodes_added_in, trial_added}
use Rattle.bridge.proofs.TreeOfRecord.{tree_of_paths}
use Rattle.bridge.proofs.NodesOnPaths.{place_on, way_sum}
use Rattle.bridge.proofs.ClassOnPaths.{node_on_path, class_free_is}
use Rattle.bridge.proofs.SearchOnPaths.{FoundSpot}
use Rattle.bridge.proofs.BookedRecord.{spot_present, booked_start}

module _ (plan : Plan) (L p : ℕ) (s : Spot) (is_legal : legal plan.rows ≡ true) (long : length plan.rows ≡ 1408)
    (may : MayOpen L p (tree_of plan)) (found_spot : FoundSpot p (tree_of plan) (path_at plan.rows) s) where
  abbrev t : Tree
  t = tree_of plan

  abbrev family : Family
  family = path_at plan.rows

  abbrev weight : ℕ
  weight = (row_of s.level (family s.line)).weight

  -- the spot is where the line's path has its node
  place_is : place_on s.level (family s.line) ≡ place_of s
  unfolding place_of way at present
  place_is =
      let node_there : present (at (place_of s) t) ≡ true = ap present found_spot.node.1 in
      let offset = ap sum (sym found_spot.rows_above) ∙ way_sum s.level s.offset t node_there in
      λ i. record { level = s.level; offset = offset i }

  -- the classes that lines take are those that are not free
  classes_counted : (d : ℕ) → classes_taken family (family s.line) s.level d ≡ count_below d (λ k. not (free d weight found_spot.node.0 k))
  unfolding classes_taken
  classes_counted d =
      let on_path = node_on_path t family (tree_of_paths plan is_legal) s.line s.level found_spot.line_below found_spot.level_below in
      let one_node = sym on_path.node_is ∙ ap (λ (a : Place). at a t) place_is ∙ found_spot.node.1 in
      let one_edges : on_path.edges ≡ found_spot.node.0 = cc in
      ap (count_below d) (fun_ext λ k.
      sym (not-not (class_taken family (family s.line) s.level d k))
      ∙ ap not (class_free_is t may.legal family (tree_of_paths plan is_legal) s.line s.level found_spot.line_below found_spot.level_below d k)
      ∙ ap (λ (f : ℕ → Tree). not (free d weight f k)) one_edges)

  split_is : ltb s.divisor weight ≡ (trial L p t).split
  unfolding trial split_in is_split place_of
  split_is = rw (found_spot.chosen_is, found_spot.node.1, found_spot.divisor_is)

  added_is : (trial_at family p s).added ≡ (trial L p t).added
  unfolding trial_at own_nodes nodes_added_in nodes_added place_of
  added_is =
      let here = spot_present plan L p s is_legal long may found_spot in
      rw (trial_added L p t (place_of s) may here found_spot.chosen_is, found_spot.node.1, classes_counted s.divisor, found_spot.step_is, found_spot.divisor_is)

  pub trial_at_is : trial_at family p s ≡ trial L p t
  unfolding trial_at trial
  trial_at_is i =
      record {
        start = booked_start plan L p s is_legal long may found_spot i;
        added = added_is i;
        split = split_is i;
      }
