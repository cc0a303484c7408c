-- The search over the paths (`best_of_lines` of crate paths, specs/Rules.antt) finds the chosen candidate of the tree, and none only where none is chosen.
-- Assumes nothing.
use Rattle.std.specs.Prelude.{if◌then◌else◌, None, Some}
use Prim.Native.Nat.{ℕ, ◌<◌, ◌≤◌}
use mathlib.Core.Path.{◌≡◌, refl, sym, ◌∙◌, ap, subst}
use mathlib.Core.Bool.{true, false, false≢true, not-eq-not, and-eq-true_iff}
use lib.ListN.{length, take}
use Rattle.tree.specs.Numbers.{divides}
use Rattle.tree.specs.Search.{found}
use Rattle.tree.specs.Tree.{Tree, nothing, line, node, sum, Place, at, way, step}
use Rattle.tree.specs.Shape.{Legal}
use Rattle.tree.specs.Opening.{divisor, free_class, candidate, candidate_at, class_at, start_at, NoCandidate, chosen}
use Rattle.paths.specs.Rules.{Family, row_of, Spot, place_of, spot_start, spot_at, best_of_lines}
use Rattle.tree.proofs.Searching.{if_some}
use Rattle.tree.proofs.Proper.{legal_proper}
use Rattle.tree.proofs.ChosenCandidate.{no_candidate_chosen_none, is_chosen_chosen}
use Rattle.paths.proofs.PickedSpots.{OnLines, picks_of_lines}
use Rattle.bridge.proofs.NodesOnPaths.{place_on, node_path}
use Rattle.bridge.proofs.ClassOnPaths.{PathsOf, path_family, node_on_path, spot_on, spot_at_is}

-- Spots and candidates

-- only a node is a candidate
candidate_node : (p m : ℕ) (t : Tree) → candidate p m t ≡ true → (w : ℕ) × (f : ℕ → Tree) × (t ≡ node w f)
unfolding candidate free_class found
candidate_node p m nothing h = absurd (false≢true ((and-eq-true_iff (divides m p) false).0 h).1)
candidate_node p m (line n) h = absurd (false≢true ((and-eq-true_iff (divides m p) false).0 h).1)
candidate_node p m (node w f) h = (w, f, refl)

-- the spot that the search found: the chosen candidate, with what the booking needs of it
pub record FoundSpot (p : ℕ) (t : Tree) (family : Family) (s : Spot) : Type 0 where
  pub chosen_is : chosen p t ≡ Some (place_of s)
  pub line_below : s.line < 64
  pub level_below : s.level < length (family s.line)
  pub rows_above : way (place_of s) t ≡ take s.level (family s.line)
  pub node : (f : ℕ → Tree) × (at (place_of s) t ≡ node (row_of s.level (family s.line)).weight f)
  pub step_is : s.step ≡ step (place_of s) t
  pub divisor_is : s.divisor ≡ divisor p (step (place_of s) t) (row_of s.level (family s.line)).weight
  pub class_is : s.class ≡ class_at p t (place_of s)

module _ (t : Tree) (legal : Legal t) (family : Family) (paths : PathsOf t family) (p : ℕ) where
  spot_candidate : (M l : ℕ) (s : Spot) → M < 64 → l < length (family M) → spot_at family p M l ≡ Some s → (candidate_at p t (place_on l (family M)) ≡ true) × (spot_on p t M l (family M) ≡ s)
  spot_candidate M l s below long h =
      if_some (candidate_at p t (place_on l (family M))) (spot_on p t M l (family M)) s (sym (spot_at_is t legal family paths M l below long p) ∙ h)

  -- the spot of a candidate offers its start
  candidate_spot : (a : Place) → candidate_at p t a ≡ true → (s : Spot) × OnLines family p 64 s × (spot_start s ≡ start_at p t a)
  unfolding candidate_at spot_on spot_start start_at
  candidate_spot a h =
      let x = candidate_node p (step a t) (at a t) h in
      let y = (node_path t legal a x.0 x.1 x.2).1 in
      let M = y.line in
      let l = a.level in
      let rows = path_family t family paths M y.rows y.line_below y.path_is in
      let long : l < length (family M) = rw rows y.level_below in
      let offset : sum (take l (family M)) ≡ a.offset = rw rows y.offset_is in
      let same : place_on l (family M) ≡ a = λ i. record { level = l; offset = offset i } in
      let spot = spot_on p t M l (family M) in
      let offered : spot_at family p M l ≡ Some spot =
      spot_at_is t legal family paths M l y.line_below long p ∙ ap (λ b. if b then Some spot else None) (ap (candidate_at p t) same ∙ h) in
      (spot, (M, y.line_below, (l, long, offered)), ap (start_at p t) same)

  -- The search finds the chosen candidate

  pub search_none : best_of_lines family p 64 ≡ None → chosen p t ≡ None
  unfolding NoCandidate
  search_none e =
      let picked = rw e at (picks_of_lines family p 64) in
      no_candidate_chosen_none p t (legal_proper t legal) λ a. not-eq-not.0 λ h.
      let x = candidate_spot a h in picked x.0 x.1

  found_on_path : (M l : ℕ) → M < 64 → l < length (family M) → chosen p t ≡ Some (place_on l (family M)) → FoundSpot p t family (spot_on p t M l (family M))
  unfolding place_of spot_on
  found_on_path M l below long h =
      let x = node_on_path t family paths M l below long in
      record {
        chosen_is = h;
        line_below = below;
        level_below = long;
        rows_above = x.way_is;
        node = (x.edges, x.node_is);
        step_is = refl;
        divisor_is = refl;
        class_is = refl;
      }

  -- a candidate is the chosen one where no spot offers a smaller start
  smallest_chosen : (a : Place) → candidate_at p t a ≡ true → ((q : Spot) → OnLines family p 64 q → start_at p t a ≤ spot_start q) → chosen p t ≡ Some a
  smallest_chosen a h smallest =
      is_chosen_chosen p t a (legal_proper t legal) (record {
        is_candidate = h;
        smallest_start = λ b k. let y = candidate_spot b k in rw y.2 at (smallest y.0 y.1);
      })

  pub search_some : (s : Spot) → best_of_lines family p 64 ≡ Some s → FoundSpot p t family s
  unfolding spot_on spot_start start_at
  search_some s e =
      let picked = rw e at (picks_of_lines family p 64) in
      let x = picked.0 in
      let M = x.0 in
      let l = x.2.0 in
      let spot = spot_candidate M l s x.1 x.2.1 x.2.2 in
      let smallest = smallest_chosen (place_on l (family M)) spot.0 λ q on. rw (← spot.1) at (picked.1 q on) in
      subst (FoundSpot p t family) spot.1 (found_on_path M l x.1 x.2.1 smallest)
