-- Where a line stands (specs/Standing.antt): by its path, once, with one period and one start, the start below the period.
-- Assumes nothing.
use Rattle.std.specs.Prelude.{if◌then◌else◌, Option, None, Some}
use Prim.Native.Nat.{ℕ, ◌+◌, ◌*◌, ◌<◌}
use native.Mathlib.Omega.{arith}
use native.Mathlib.Decide.{dec_lt}
use native.Mathlib.Nat.{mul-one, one-mul, mul-add, mul_assoc, mul_comm, mul-zero}
use mathlib.Core.Path.{◌≡◌, refl, sym, ◌∙◌, ap, ap₂}
use mathlib.Core.Bool.{Bool, true, false, true≢false}
use mathlib.Core.List.{List, [], ◌∷◌}
use Rattle.tree.proofs.Options.{some-none, mapped_none, mapped_some}
use Rattle.std.proofs.lemmas.Option.{none-some}
use lib.Dec.{eqb}
use borrow.Author.Tests.{eqb-true, eq-eqb}
use Rattle.tree.specs.declared.Row.{Row}
use Rattle.tree.specs.Search.{found}
use Rattle.tree.specs.Tree.{Tree, nothing, line, node, row, product, sum_from, sum, path, is_open, path_of, period_of, start_of}
use Rattle.tree.specs.Standing.{Stands}
use Rattle.tree.specs.Shape.{Edges}
use Rattle.tree.proofs.UnderEdge.{stands_under}
use Rattle.tree.proofs.Proper.{Proper, nothing_open}
use Rattle.tree.proofs.Digits.{digits_below}
use Rattle.tree.proofs.Searching.{first_none, first_some, found_some}

-- Equation 6, from the last row up

sum_from_factor : (m : ℕ) (rs : List Row) → sum_from m rs ≡ m * sum rs
unfolding sum_from sum
sum_from_factor m [] = sym (mul-zero m)
sum_from_factor m (r ∷ rs) =
    rw (sum_from_factor (m * r.weight) rs, sum_from_factor (1 * r.weight) rs, mul_comm r.edge m)
    (simp (one-mul, mul-one, mul-add, mul_assoc))

-- the first edge, and its node's weight times the sum of the rest
pub sum_row : (r : Row) (rs : List Row) → sum (r ∷ rs) ≡ r.edge + r.weight * sum rs
unfolding sum_from sum
sum_row r rs = rw (sum_from_factor (1 * r.weight) rs) (simp (one-mul, mul-one))

-- A path and where it leads

pub path_of_line : (L n : ℕ) (rs : List Row) → (if eqb n L then Some [] else None) ≡ Some rs → (n ≡ L) × (rs ≡ [])
path_of_line L n rs h = go (eqb n L) refl h
  where
    go : (b : Bool) → eqb n L ≡ b → (if b then Some [] else None) ≡ Some rs → (n ≡ L) × (rs ≡ [])
    go true e k = (eqb-true n L e, (cc))
    go false e k = absurd (none-some rs k)

-- the path of a line through a node: the edge taken there, and the rows below it
pub record PathBelow (L w : ℕ) (f : ℕ → Tree) (rs : List Row) : Type 0 where
  pub edge : ℕ
  pub rest : List Row
  pub edge_below : edge < w
  pub path_is : path L (f edge) ≡ Some rest
  pub rows_are : rs ≡ row w edge ∷ rest

pub path_below : (L w : ℕ) (f : ℕ → Tree) (rs : List Row) → path L (node w f) ≡ Some rs → PathBelow L w f rs
unfolding path
path_below L w f rs h =
    let x = first_some w _ rs h in
    let below = mapped_some (◌∷◌ (row w x.index)) (path L (f x.index)) _ x.offers in
    record {
      edge = x.index;
      rest = below.0;
      edge_below = x.index_below;
      path_is = below.1;
      rows_are = sym below.2;
    }

-- a line with this path stands with the product of its weights for a period and equation 6's sum for a start
pub path_stands : (L : ℕ) (t : Tree) (rs : List Row) → path L t ≡ Some rs → Stands L t (product rs) (sum rs)
unfolding path Stands product sum sum_from
path_stands L nothing rs h = absurd (none-some rs h)
path_stands L (line n) rs h =
    let at_line = path_of_line L n rs h in
    (at_line.0, ap product at_line.1, ap sum at_line.1)
path_stands L (node w f) rs h =
    let x = path_below L w f rs h in
    record {
      edge = x.edge;
      period = product x.rest;
      start = sum x.rest;
      edge_below = x.edge_below;
      stands = path_stands L (f x.edge) x.rest x.path_is;
      period_is = ap product x.rows_are;
      start_is = ap sum x.rows_are ∙ sum_row (row w x.edge) x.rest;
    }

pub open_stands : (L : ℕ) (t : Tree) → is_open L t ≡ true → Stands L t (period_of L t) (start_of L t)
unfolding is_open period_of start_of path_of
open_stands L t h =
    let x = found_some (path L t) h in
    rw x.1 (path_stands L t x.0 x.1)

-- what stands is open: the search for its path finds one
pub path_found : (L : ℕ) (t : Tree) (q u : ℕ) → Stands L t q u → path L t ≡ None → ⊥
unfolding path Stands
path_found L (line n) q u h e =
    some-none {A = List Row} [] (sym (ap (λ (b : Bool). if b then Some [] else None) (eq-eqb n L h.0)) ∙ e)
path_found L (node w f) q u h e =
    path_found L (f h.edge) h.period h.start h.stands
    (mapped_none (◌∷◌ (row w h.edge)) (path L (f h.edge)) (first_none w _ e h.edge h.edge_below))
path_found L nothing q u h e = h

pub stands_open : (L : ℕ) (t : Tree) (q u : ℕ) → Stands L t q u → is_open L t ≡ true
unfolding is_open found
stands_open L t q u h = go (path L t) refl
  where
    go : (o : Option (List Row)) → path L t ≡ o → found (path L t) ≡ true
    go None e = absurd (path_found L t q u h e)
    go (Some rs) e = ap found e

-- a line that is open under an edge is open in the node
pub not_open_below : (L w : ℕ) (f : ℕ → Tree) → Edges w f → is_open L (node w f) ≡ false → (e : ℕ) → is_open L (f e) ≡ true → ⊥
not_open_below L w f edges new e open_there =
    elim (dec_lt e w) [
      | yes below ↦
          let x = stands_under L w f e _ _ below (open_stands L (f e) open_there) in
          true≢false (sym (stands_open L (node w f) _ _ x) ∙ new)
      | no beyond ↦ nothing_open L (f e) (edges.below_weight e (omega arith)) open_there
    ]

-- One place for each line

pub stands_once : (L : ℕ) (t : Tree) (q u p s : ℕ) → Proper t → Stands L t q u → Stands L t p s → (q ≡ p) × (u ≡ s)
unfolding Proper Stands
stands_once L nothing q u p s proper a b = absurd a
stands_once L (line n) q u p s proper a b = (a.1 ∙ sym b.1, a.2 ∙ sym b.2)
stands_once L (node w f) q u p s proper a b =
    let here = stands_open L (f a.edge) a.period a.start a.stands in
    let there = stands_open L (f b.edge) b.period b.start b.stands in
    let same = proper.1.line_once L a.edge b.edge here there in
    let below = stands_once L (f a.edge) a.period a.start b.period b.start (proper.2 a.edge) a.stands (rw same b.stands) in (
      a.period_is ∙ ap (λ (n : ℕ). w * n) below.0 ∙ sym b.period_is,
      a.start_is ∙ ap₂ (λ (e n : ℕ). e + w * n) same below.1 ∙ sym b.start_is,
    )

pub start_below_period : (L : ℕ) (t : Tree) (q u : ℕ) → Stands L t q u → u < q
unfolding Stands
start_below_period L nothing q u h = absurd h
start_below_period L (line n) q u h = let q1 = h.1 in let u0 = h.2 in omega arith
start_below_period L (node w f) q u h =
    rw (h.period_is, h.start_is)
    (digits_below w h.period h.edge h.start h.edge_below (start_below_period L (f h.edge) h.period h.start h.stands))

-- a line's period is the product of the weights on its path, and its start equation 6's sum
pub stands_by_path : (L : ℕ) (t : Tree) (q u : ℕ) → Proper t → Stands L t q u → (q ≡ period_of L t) × (u ≡ start_of L t)
stands_by_path L t q u proper h =
    stands_once L t q u (period_of L t) (start_of L t) proper h (open_stands L t (stands_open L t q u h))
