-- What a level of a line's path offers (crate paths, specs/Rules.antt) is what the node there has: the lines that take a class are those that stand in it, and its smallest free class is offered, if it is a candidate.
-- Assumes nothing.
use Rattle.std.specs.Prelude.{if◌then◌else◌, Option, None, Some, option_map, unwrap_or}
use Prim.Native.Nat.{ℕ, suc, ◌%◌, ◌<◌}
use native.Mathlib.Omega.{arith}
use mathlib.Core.Path.{◌≡◌, refl, sym, ◌∙◌, ap, ap₂, fun_ext}
use mathlib.Core.Bool.{Bool, true, false, not, ◌&&◌, not-not, and-eq-true_iff}
use mathlib.Core.List.{List, []}
use Rattle.std.proofs.lemmas.Bool.Decides.{same_from_decides}
use lib.Dec.{eqb}
use lib.ListN.{length, take, drop}
use borrow.Author.Tests.{eqb-true, eq-eqb}
use Rattle.tree.specs.declared.Row.{Row}
use Rattle.tree.specs.Numbers.{divides}
use Rattle.tree.specs.Search.{found, smallest, some_below}
use Rattle.tree.specs.Tree.{Tree, product, sum, path, is_open, path_of, Place, at, step}
use Rattle.tree.specs.Shape.{Legal}
use Rattle.tree.specs.Opening.{divisor, free, free_class, candidate, candidate_at, class_at}
use Rattle.tree.specs.Reason.{stands_in_class}
use Rattle.paths.specs.Rules.{Family, row_of, same_node, takes_class, class_taken, class_on_path, Spot, spot_with, spot_at}
use Rattle.tree.proofs.Searching.{found_some, smallest_same, some_below_true, some_below_at}
use Rattle.tree.proofs.Reasons.{class_stands}
use Rattle.paths.proofs.SameNode.{same_node_goes_on}
use Rattle.bridge.proofs.NodesOnPaths.{place_on, NodeOnPath, path_node, LineThrough, path_through_edge, under_edge_taken, same_node_exactly, same_node_weight, through_same_node}

-- the family holds the path of every line below 64, and no rows for one that does not stand
abbrev pub PathsOf : Tree → Family → Type 0
PathsOf t family = (M : ℕ) → M < 64 → family M ≡ path_of M t

pub path_family : (t : Tree) (family : Family) → PathsOf t family → (M : ℕ) (rs : List Row) → M < 64 → path M t ≡ Some rs → family M ≡ rs
unfolding path_of
path_family t family paths M rs below h = paths M below ∙ ap (λ o. unwrap_or o []) h

pub family_path : (t : Tree) (family : Family) → PathsOf t family → (M l : ℕ) → M < 64 → l < length (family M) → path M t ≡ Some (family M)
unfolding path_of
family_path t family paths M l below long = by_outcome (path M t) refl
  where
    by_outcome : (o : Option (List Row)) → path M t ≡ o → path M t ≡ Some (family M)
    by_outcome None e =
        let closed : family M ≡ [] = paths M below ∙ ap (λ o. unwrap_or o []) e in
        let none_there : l < 0 = rw closed at long in
        absurd (omega arith)
    by_outcome (Some rs) e = e ∙ ap Some (sym (path_family t family paths M rs below e))

pub node_on_path : (t : Tree) (family : Family) → PathsOf t family → (M l : ℕ) → M < 64 → l < length (family M) → NodeOnPath M t l (family M)
node_on_path t family paths M l below long = path_node M t l (family M) (family_path t family paths M l below long) long

-- the spot of the node at level l of line M's path
unfoldable pub spot_on : ℕ → Tree → ℕ → ℕ → List Row → Spot
spot_on p t M l rs =
    let a = place_on l rs in
    record {
      line = M;
      level = l;
      offset = a.offset;
      step = step a t;
      divisor = divisor p (step a t) (row_of l rs).weight;
      class = class_at p t a;
    }

offer_if : (b : Bool) (spot : ℕ → Spot) (o : Option ℕ) → (if b then option_map spot o else None) ≡ (if b && found o then Some (spot (unwrap_or o 0)) else None)
unfolding found
offer_if true spot None = refl
offer_if true spot (Some i) = refl
offer_if false spot o = refl

module _ (t : Tree) (legal : Legal t) (family : Family) (paths : PathsOf t family) (M l : ℕ) (below : M < 64) (long : l < length (family M)) where
  abbrev here : NodeOnPath M t l (family M)
  here = node_on_path t family paths M l below long

  abbrev weight : ℕ
  weight = (row_of l (family M)).weight

  abbrev place : Place
  place = place_on l (family M)

  standing : path M t ≡ Some (family M)
  standing = family_path t family paths M l below long

  -- a further line through the node stands under the edge that its path takes there, and its path's next level is there
  pub same_node_under :
      (N : ℕ) → N < 64 → same_node l (family M) (family N) ≡ true →
      let e = (row_of l (family N)).edge in
      (e < weight) × (path N (here.edges e) ≡ Some (drop (suc l) (family N))) × (at (place_on (suc l) (family N)) t ≡ here.edges e)
  same_node_under N N_below same =
      let qs = family N in
      let standing_too = family_path t family paths N l N_below (same_node_goes_on l (family M) qs same).1 in
      let rows = (same_node_exactly M N t l (family M) qs standing standing_too long).0 same in
      let edge_below = rw (same_node_weight M t l (family M) standing long N qs standing_too same) at (path_node N t l qs standing_too rows.1).edge_below in
      let goes_on = under_edge_taken t legal place weight here.edges here.node_is N qs standing_too rows.1 (ap sum rows.0) in
      (edge_below, goes_on.0, goes_on.1)

  -- Classes

  -- a line through the node takes the class of its edge
  through_takes : (d e : ℕ) (x : LineThrough t place weight e) → takes_class family (family M) l d (e % d) x.line ≡ true
  through_takes d e x =
      let rows = path_family t family paths x.line x.rows x.line_below x.path_is in
      rw (rows, through_same_node M t l (family M) standing long weight e x, x.row_is) (eq-eqb (e % d) (e % d) refl)

  takes_stands : (d i N : ℕ) → N < 64 → takes_class family (family M) l d i N ≡ true → stands_in_class d weight here.edges i N ≡ true
  unfolding stands_in_class is_open found
  takes_stands d i N N_below h =
      let e = (row_of l (family N)).edge in
      let both = (and-eq-true_iff (same_node l (family M) (family N)) (eqb (e % d) i)).0 h in
      let under = same_node_under N N_below both.0 in
      some_below_at weight _ e under.0 (rw (both.1, under.1))

  stands_takes : (d i N : ℕ) → stands_in_class d weight here.edges i N ≡ true → takes_class family (family M) l d i N ≡ true
  unfolding stands_in_class is_open
  stands_takes d i N h =
      let x = some_below_true weight _ h in
      let both = (and-eq-true_iff (eqb (x.0 % d) i) (is_open N (here.edges x.0))).0 x.2 in
      let under = found_some (path N (here.edges x.0)) both.1 in
      let through = path_through_edge t legal place weight here.edges here.node_is x.0 N under.0 x.1 under.1 in
      ap₂ (takes_class family (family M) l d) (sym (eqb-true (x.0 % d) i both.0)) (sym through.1) ∙ through_takes d x.0 through.0

  -- the lines that take a class are those that stand under an edge of it
  pub takes_class_is : (d i N : ℕ) → N < 64 → takes_class family (family M) l d i N ≡ stands_in_class d weight here.edges i N
  takes_class_is d i N N_below = same_from_decides _ _ (takes_stands d i N N_below, stands_takes d i N) (λ h. h, λ h. h)

  -- so a class that no line takes is a free one
  pub class_free_is : (d i : ℕ) → not (class_taken family (family M) l d i) ≡ free d weight here.edges i
  unfolding class_taken some_below
  class_free_is d i =
      ap not (ap found (smallest_same 64 _ _ (takes_class_is d i)) ∙ class_stands t legal place weight here.edges here.node_is d i)
      ∙ not-not (free d weight here.edges i)

  -- the smallest class that no line takes is the node's smallest free class
  pub class_on_path_is : (p m : ℕ) → class_on_path family (family M) l (divisor p m weight) ≡ free_class p m (at place t)
  unfolding class_on_path free_class
  class_on_path_is p m =
      rw here.node_is (ap (smallest (divisor p m weight)) (fun_ext λ i. class_free_is (divisor p m weight) i))

  -- Candidates

  pub spot_at_is : (p : ℕ) → spot_at family p M l ≡ (if candidate_at p t place then Some (spot_on p t M l (family M)) else None)
  unfolding spot_at spot_with candidate_at candidate class_at step spot_on
  spot_at_is p =
      let m = product (take l (family M)) in
      rw (here.way_is, class_on_path_is p m) (offer_if (divides m p) _ (free_class p m (at place t)))
