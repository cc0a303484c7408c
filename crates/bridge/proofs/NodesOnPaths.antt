-- The nodes of a tree are the levels of its lines' paths, and a line that stands under an edge of a node has a path that takes it there.
-- Assumes nothing.
use Prim.Native.Nat.{ℕ, zero, suc, ◌+◌, ◌*◌, ◌/◌, ◌%◌, ◌<◌}
use native.Mathlib.Omega.{arith}
use native.Mathlib.Nat.{mod-lt, mod-add-div}
use mathlib.Core.Path.{◌≡◌, refl, sym, ◌∙◌, ap, ap₂, subst}
use mathlib.Core.Logic.{◌↔◌}
use mathlib.Core.Bool.{true, false≢true, and-eq-true_iff}
use mathlib.Core.List.{List, ◌∷◌, ◌++◌}
use Rattle.std.specs.Prelude.{Some}
use Rattle.std.proofs.lemmas.Option.{none-some}
use lib.Dec.{eqb}
use lib.ListN.{length, take, drop, length-append}
use lib.Seq.{take_at, get_or_at, get_or-take}
use borrow.Author.Tests.{eqb-true}
use Rattle.tree.specs.declared.Row.{Row}
use Rattle.tree.specs.Tree.{Tree, nothing, line, node, present, row, sum_from, sum, path, Place, at_digits, at, way_by_digits, way}
use Rattle.tree.specs.Opening.{under}
use Rattle.tree.specs.Shape.{Legal}
use Rattle.paths.specs.Rules.{row_of, same_node}
use Rattle.tree.proofs.Digits.{digit_low, digit_high}
use Rattle.tree.proofs.Searching.{some_below_true}
use Rattle.tree.proofs.Proper.{Proper, legal_proper}
use Rattle.tree.proofs.Standing.{path_of_line, path_below, path_stands, sum_row}
use Rattle.tree.proofs.CandidatePlaces.{at_under}
use Rattle.tree.proofs.Opening.{at_proper}
use Rattle.tree.proofs.Numbering.{stands_number}
use Rattle.paths.proofs.SameNode.{same_node_goes_on, same_node_by_edges}
use Rattle.bridge.proofs.NodePath.{path_under}
use Rattle.bridge.proofs.SameTree.{present_path}

-- the place of level l of a path
abbrev pub place_on : ℕ → List Row → Place
place_on l rs = record { level = l; offset = sum (take l rs) }

-- From a path to the node at a level of it

pub record NodeOnPath (M : ℕ) (t : Tree) (l : ℕ) (rs : List Row) : Type 0 where
  pub edges : ℕ → Tree
  pub way_is : way (place_on l rs) t ≡ take l rs
  pub node_is : at (place_on l rs) t ≡ node (row_of l rs).weight edges
  pub edge_below : (row_of l rs).edge < (row_of l rs).weight
  pub path_is : path M (edges (row_of l rs).edge) ≡ Some (drop (suc l) rs)
  pub below_is : at (place_on (suc l) rs) t ≡ edges (row_of l rs).edge

way_under : (w e : ℕ) (f : ℕ → Tree) (a : Place) → e < w → way (under w e a) (node w f) ≡ row w e ∷ way a (f e)
unfolding way way_by_digits under
way_under w e f a below =
    ap₂ (λ d q. row w d ∷ way_by_digits a.level q (f d)) (digit_low w e a.offset below) (digit_high w e a.offset below)

place_under : (w e l : ℕ) (rs : List Row) → place_on (suc l) (row w e ∷ rs) ≡ under w e (place_on l rs)
unfolding under
place_under w e l rs i = record { level = suc l; offset = sum_row (row w e) (take l rs) i }

at_row_under : (w e l : ℕ) (f : ℕ → Tree) (rs : List Row) → e < w → at (place_on (suc l) (row w e ∷ rs)) (node w f) ≡ at (place_on l rs) (f e)
at_row_under w e l f rs below = ap (λ a. at a (node w f)) (place_under w e l rs) ∙ at_under w e below f (place_on l rs)

root_on_path : (M w e : ℕ) (f : ℕ → Tree) (rs : List Row) → e < w → path M (f e) ≡ Some rs → NodeOnPath M (node w f) 0 (row w e ∷ rs)
unfolding way way_by_digits at at_digits sum sum_from row_of
root_on_path M w e f rs below h =
    record {
      edges = f;
      way_is = refl;
      node_is = refl;
      edge_below = below;
      path_is = h;
      below_is = at_row_under w e 0 f rs below;
    }

node_under : (M w e l : ℕ) (f : ℕ → Tree) (rs : List Row) → e < w → NodeOnPath M (f e) l rs → NodeOnPath M (node w f) (suc l) (row w e ∷ rs)
unfolding row_of
node_under M w e l f rs below x =
    record {
      edges = x.edges;
      way_is = rw (place_under w e l rs, way_under w e f (place_on l rs) below, x.way_is);
      node_is = at_row_under w e l f rs below ∙ x.node_is;
      edge_below = x.edge_below;
      path_is = x.path_is;
      below_is = at_row_under w e (suc l) f rs below ∙ x.below_is;
    }

pub path_node : (M : ℕ) (t : Tree) (l : ℕ) (rs : List Row) → path M t ≡ Some rs → l < length rs → NodeOnPath M t l rs
unfolding path
path_node M nothing l rs h below = absurd (none-some rs h)
path_node M (line n) l rs h below =
    let rows = (path_of_line M n rs h).1 in
    let none_there : l < 0 = rw rows at below in
    absurd (omega arith)
path_node M (node w f) zero rs h below =
    let x = path_below M w f rs h in
    rw x.rows_are (root_on_path M w x.edge f x.rest x.edge_below x.path_is)
path_node M (node w f) (suc l) rs h below =
    let x = path_below M w f rs h in
    let deeper : suc l < suc (length x.rest) = rw x.rows_are at below in
    rw x.rows_are
    (node_under M w x.edge l f x.rest x.edge_below (path_node M (f x.edge) l x.rest x.path_is (omega arith)))

-- From a node to the paths through it

way_length : (l r : ℕ) (t : Tree) → present (at_digits l r t) ≡ true → length (way_by_digits l r t) ≡ l
unfolding at_digits way_by_digits present
way_length zero r t here = refl
way_length (suc l) r nothing here = absurd (false≢true here)
way_length (suc l) r (line n) here = absurd (false≢true here)
way_length (suc l) r (node w f) here = ap suc (way_length l (r / w) (f (r % w)) here)

pub way_sum : (l r : ℕ) (t : Tree) → present (at_digits l r t) ≡ true → sum (way_by_digits l r t) ≡ r
unfolding at_digits way_by_digits present sum sum_from
way_sum zero zero t here = refl
way_sum zero (suc r) t here = absurd (false≢true here)
way_sum (suc l) r nothing here = absurd (false≢true here)
way_sum (suc l) r (line n) here = absurd (false≢true here)
way_sum (suc l) r (node w f) here =
    sum_row (row w (r % w)) (way_by_digits l (r / w) (f (r % w)))
    ∙ ap (λ (n : ℕ). r % w + w * n) (way_sum l (r / w) (f (r % w)) here)
    ∙ mod-add-div r w

-- the path of a line below a place goes through that place
path_through : (M l r : ℕ) (t : Tree) (rs : List Row) → Proper t → path M (at_digits l r t) ≡ Some rs → path M t ≡ Some (way_by_digits l r t ++ rs)
unfolding at_digits way_by_digits Proper path
path_through M zero zero t rs proper h = h
path_through M zero (suc r) t rs proper h = absurd (none-some rs h)
path_through M (suc l) r nothing rs proper h = absurd (none-some rs h)
path_through M (suc l) r (line n) rs proper h = absurd (none-some rs h)
path_through M (suc l) r (node w f) rs proper h =
    path_under M w f (r % w) (way_by_digits l (r / w) (f (r % w)) ++ rs) proper.1 (mod-lt r proper.0)
    (path_through M l (r / w) (f (r % w)) rs (proper.2 (r % w)) h)

-- a line whose path goes through the node at a place, of weight w, and takes edge e there
pub record LineThrough (t : Tree) (a : Place) (w e : ℕ) : Type 0 where
  pub line : ℕ
  pub rows : List Row
  pub line_below : line < 64
  pub path_is : path line t ≡ Some rows
  pub level_below : a.level < length rows
  pub rows_above : take a.level rows ≡ way a t
  pub offset_is : sum (take a.level rows) ≡ a.offset
  pub row_is : row_of a.level rows ≡ row w e

path_line_below : (M : ℕ) (t : Tree) (rs : List Row) → Legal t → path M t ≡ Some rs → M < 64
path_line_below M t rs legal h = let small = stands_number M t _ _ legal (path_stands M t rs h) in omega arith

module _ (t : Tree) (legal : Legal t) (a : Place) (w : ℕ) (f : ℕ → Tree) (here : at a t ≡ node w f) where
  pub node_proper : Proper (node w f)
  unfolding at
  node_proper = subst Proper here (at_proper a.level a.offset t (legal_proper t legal))

  place_present : present (at a t) ≡ true
  unfolding present
  place_present = ap present here

  -- a line that stands under an edge has a path that takes that edge
  pub path_through_edge : (e N : ℕ) (rs : List Row) → e < w → path N (f e) ≡ Some rs → (x : LineThrough t a w e) × (x.line ≡ N)
  unfolding Proper at way row_of
  path_through_edge e N rs below h =
      let rest = row w e ∷ rs in
      let in_node : path N (at a t) ≡ Some rest = rw here (path_under N w f e rs node_proper.1 below h) in
      let whole = path_through N a.level a.offset t rest (legal_proper t legal) in_node in
      let long = way_length a.level a.offset t place_present in
      let above = take_at (way a t) rest a.level long in (
        record {
          line = N;
          rows = way a t ++ rest;
          line_below = path_line_below N t (way a t ++ rest) legal whole;
          path_is = whole;
          level_below = omega (arith, length-append (way a t) rest);
          rows_above = above;
          offset_is = ap sum above ∙ way_sum a.level a.offset t place_present;
          row_is = get_or_at (way a t) (row w e) rs (row 0 0) a.level long;
        },
        refl,
      )

  -- a present edge is one that a line takes
  pub present_through : (e : ℕ) → e < w → present (f e) ≡ true → LineThrough t a w e
  unfolding Proper
  present_through e below there =
      let x = present_path (f e) (node_proper.2 e) there in
      (path_through_edge e x.0 x.1 below x.2).0

  -- under the edge that a path takes at the node, the path goes on, and the path's next level is there
  pub under_edge_taken :
      (N : ℕ) (qs : List Row) → path N t ≡ Some qs → a.level < length qs → sum (take a.level qs) ≡ a.offset →
      (path N (f (row_of a.level qs).edge) ≡ Some (drop (suc a.level) qs)) × (at (place_on (suc a.level) qs) t ≡ f (row_of a.level qs).edge)
  under_edge_taken N qs h long offset =
      let y = path_node N t a.level qs h long in
      let same_place : place_on a.level qs ≡ a = λ i. record { level = a.level; offset = offset i } in
      let one_node = sym y.node_is ∙ ap (λ b. at b t) same_place ∙ here in
      let under_edge : y.edges (row_of a.level qs).edge ≡ f (row_of a.level qs).edge = cc in
      (ap (path N) (sym under_edge) ∙ y.path_is, y.below_is ∙ under_edge)

  -- some line goes through the node
  pub node_path : (e : ℕ) × LineThrough t a w e
  unfolding Proper
  node_path =
      let x = some_below_true w _ node_proper.1.not_empty in
      (x.0, present_through x.0 x.1 x.2)

-- Two paths go through the same node

rows_same_node : (l : ℕ) (rs qs : List Row) → take l qs ≡ take l rs → l < length rs → l < length qs → same_node l rs qs ≡ true
unfolding row_of
rows_same_node l rs qs same long_r long_q = same_node_by_edges l rs qs long_r long_q λ k below.
    ap (λ (r : Row). r.edge) (sym (get_or-take l rs k (row 0 0) below) ∙ ap (row_of k) (sym same) ∙ get_or-take l qs k (row 0 0) below)

same_node_rows : (M N : ℕ) (t : Tree) (l : ℕ) (rs qs : List Row) → path M t ≡ Some rs → path N t ≡ Some qs → same_node l rs qs ≡ true → take l qs ≡ take l rs
unfolding path same_node
same_node_rows M N nothing l rs qs h k same = absurd (none-some rs h)
same_node_rows M N (line n) l rs qs h k same =
    let no_row = (path_of_line M n rs h).1 in
    absurd (false≢true (rw no_row at same))
same_node_rows M N (node w f) zero rs qs h k same = refl
same_node_rows M N (node w f) (suc l) rs qs h k same =
    let x = path_below M w f rs h in
    let y = path_below N w f qs k in
    let both = (and-eq-true_iff (eqb x.edge y.edge) (same_node l x.rest y.rest)).0 (rw (x.rows_are, y.rows_are) at same) in
    let edge : x.edge ≡ y.edge = eqb-true x.edge y.edge both.0 in
    let later = same_node_rows M N (f x.edge) l x.rest y.rest x.path_is (rw edge y.path_is) both.1 in
    rw (x.rows_are, y.rows_are) (ap₂ (λ e rows. row w e ∷ rows) (sym edge) later)

pub same_node_exactly :
    (M N : ℕ) (t : Tree) (l : ℕ) (rs qs : List Row) → path M t ≡ Some rs → path N t ≡ Some qs → l < length rs →
    (same_node l rs qs ≡ true) ↔ ((take l qs ≡ take l rs) × (l < length qs))
same_node_exactly M N t l rs qs h k long = (
  λ same. (same_node_rows M N t l rs qs h k same, (same_node_goes_on l rs qs same).1),
  λ both. rows_same_node l rs qs both.0 long both.1,
)

-- The lines through the node at level l of line M's path are those whose paths have the same node there

module _ (M : ℕ) (t : Tree) (l : ℕ) (rs : List Row) (h : path M t ≡ Some rs) (long : l < length rs) where
  pub same_node_weight : (N : ℕ) (qs : List Row) → path N t ≡ Some qs → same_node l rs qs ≡ true → (row_of l qs).weight ≡ (row_of l rs).weight
  same_node_weight N qs k same =
      let both = (same_node_exactly M N t l rs qs h k long).0 same in
      let x = path_node M t l rs h long in
      let y = path_node N t l qs k both.1 in
      let one_node =
      sym y.node_is ∙ ap (λ (above : List Row). at (record { level = l; offset = sum above }) t) both.0 ∙ x.node_is in
      cc

  pub through_same_node : (w e : ℕ) (x : LineThrough t (place_on l rs) w e) → same_node l rs x.rows ≡ true
  through_same_node w e x =
      (same_node_exactly M x.line t l rs x.rows h x.path_is long).1
      (x.rows_above ∙ (path_node M t l rs h long).way_is, x.level_below)
