-- How large a legal tree can be: at most 11 nodes above a line, a step of at most 2,047, and at most 704 nodes in all.
-- Assumes nothing.
use Prim.Native.Nat.{ℕ, zero, suc, ◌+◌, ◌*◌, ◌/◌, ◌%◌, ◌^◌, ◌<◌, ◌≤◌}
use native.Mathlib.Omega.{arith}
use native.Mathlib.Nat.{pow-succ', mod-one, mul_assoc, mul-one, one-mul, mul-le-mul_left, mul-le-mul_right, le-mul_of_pos_right}
use native.Mathlib.Decide.{dec_lt}
use mathlib.Core.Path.{◌≡◌, refl, ◌∙◌, ap, subst}
use mathlib.Core.Logic.{◌⊎◌, inl, inr}
use mathlib.Core.Bool.{true, false≢true}
use mathlib.Core.List.{List, [], ◌∷◌}
use Rattle.std.specs.Prelude.{None, Some, unwrap_or}
use Rattle.std.proofs.lemmas.Option.{none-some}
use lib.ListN.{length}
use lib.Pow.{pow_mono}
use Rattle.tree.specs.declared.Row.{Row}
use Rattle.tree.specs.Search.{found, total_below}
use Rattle.tree.specs.Tree.{Tree, nothing, line, node, present, row, product, path, is_open, path_of, period_of, start_of, Place, at_digits, at, way_by_digits, way, step, nodes}
use Rattle.tree.specs.Standing.{Stands}
use Rattle.tree.specs.Opening.{put, one_edge}
use Rattle.tree.specs.Shape.{Edges, LegalUnder, Alone, Legal}
use Rattle.tree.proofs.Searching.{found_some, some_below_true}
use Rattle.tree.proofs.Put.{put_same}
use Rattle.tree.proofs.Standing.{path_of_line, path_below, open_stands, stands_open}
use Rattle.tree.proofs.Totals.{total_at_most, total_monotone, total_less, total_only, total_exchange}

-- The nodes above a line

-- a row stands for a weight of at least 2, and all weights above a line multiply to at most 4095
rows_fit : (m : ℕ) (t : Tree) (L : ℕ) (rs : List Row) → LegalUnder m t → path L t ≡ Some rs → m * 2 ^ length rs ≤ 4095
unfolding LegalUnder path
rows_fit m nothing L rs legal h = absurd (none-some rs h)
rows_fit m (line n) L rs legal h = rw ((path_of_line L n rs h).1, mul-one) legal.1
rows_fit m (node w f) L rs legal h =
    let x = path_below L w f rs h in
    let below = rows_fit (m * w) (f x.edge) L x.rest (legal.2 x.edge) x.path_is in
    rw (x.rows_are, pow-succ', ← mul_assoc)
    (omega (arith, mul-le-mul_right (2 ^ length x.rest) (mul-le-mul_left m legal.0)))

-- the line of a root of weight 1 has that root's row for a path
pub alone_path : (t : Tree) (L : ℕ) (rs : List Row) → Alone t → path L t ≡ Some rs → rs ≡ row 1 0 ∷ []
unfolding one_edge
alone_path t L rs alone h =
    let x = path_below L 1 _ rs (rw alone.tree at h) in
    let below = x.edge_below in
    let edge_0 : x.edge ≡ 0 = omega arith in
    let at_line = put_same 0 x.edge (line alone.number) (λ e. nothing) edge_0 in
    let ends = path_of_line L alone.number x.rest (unfold path in (rw at_line at x.path_is)) in
    x.rows_are ∙ rw (edge_0, ends.1)

-- at most 11 nodes above an open line
pub at_most_11_above : (t : Tree) (L : ℕ) (rs : List Row) → Legal t → path L t ≡ Some rs → length rs ≤ 11
unfolding Legal path
at_most_11_above nothing L rs legal h = absurd (none-some rs h)
at_most_11_above (line n) L rs legal h = absurd legal
at_most_11_above (node w f) L rs (inr alone) h =
    omega (arith, ap length (alone_path (node w f) L rs alone h))
at_most_11_above (node w f) L rs (inl legal) h =
    elim (dec_lt (length rs) 12) [
      | yes less ↦ omega arith
      | no more ↦ absurd (omega (arith, rows_fit 1 (node w f) L rs legal h, pow_mono {i = 12} {j = length rs} (omega arith)))
    ]

-- The step of a node

-- a line stands under whatever is present, and its period is a multiple of the weights' product so far
pub product_fits : (m : ℕ) (t : Tree) → LegalUnder m t → present t ≡ true → m ≤ 4095
unfolding LegalUnder present
product_fits m nothing legal here = absurd (false≢true here)
product_fits m (line n) legal here = legal.1
product_fits m (node w f) legal here =
    let e = some_below_true w _ legal.1.not_empty in
    let two = legal.0 in
    let below = product_fits (m * w) (f e.0) (legal.2 e.0) e.2 in
    let most : m ≤ m * w = le-mul_of_pos_right m (omega arith) in
    omega arith

-- a node's step times its weight is such a product, and the weight is at least 2
step_fits : (m l r : ℕ) (t : Tree) (w : ℕ) (f : ℕ → Tree) → LegalUnder m t → at_digits l r t ≡ node w f → m * product (way_by_digits l r t) ≤ 2047
unfolding LegalUnder at_digits way_by_digits product present
step_fits m zero zero t w f legal is =
    let under = subst (LegalUnder m) is legal in
    let e = some_below_true w _ under.1.not_empty in
    let below = product_fits (m * w) (f e.0) (under.2 e.0) e.2 in
    omega (arith, mul-one m, mul-le-mul_left m under.0)
step_fits m zero (suc r) t w f legal is = absurd (false≢true (ap present is))
step_fits m (suc l) r nothing w f legal is = absurd (false≢true (ap present is))
step_fits m (suc l) r (line n) w f legal is = absurd (false≢true (ap present is))
step_fits m (suc l) r (node v g) w f legal is =
    rw (← mul_assoc) (step_fits (m * v) l (r / v) (g (r % v)) w f (legal.2 (r % v)) is)

-- where the root has weight 1 a line stands under it, and every step is 1
way_in_line : (l r n : ℕ) → product (way_by_digits l r (line n)) ≡ 1
unfolding way_by_digits product
way_in_line zero r n = refl
way_in_line (suc l) r n = refl

way_in_alone : (l r : ℕ) (t : Tree) → Alone t → product (way_by_digits l r t) ≡ 1
unfolding way_by_digits product one_edge
way_in_alone zero r t alone = refl
way_in_alone (suc l) r t alone =
    rw (alone.tree, mod-one r, put_same 0 0 (line alone.number) (λ e. nothing) refl, one-mul) (way_in_line l (r / 1) alone.number)

-- the step of every node is at most 2047
pub step_at_most_2047 : (t : Tree) (a : Place) (w : ℕ) (f : ℕ → Tree) → Legal t → at a t ≡ node w f → step a t ≤ 2047
unfolding Legal LegalUnder at way step
step_at_most_2047 nothing a w f legal is = rw one-mul at (step_fits 1 a.level a.offset nothing w f legal is)
step_at_most_2047 (line n) a w f legal is = absurd legal
step_at_most_2047 (node v g) a w f (inl legal) is = rw one-mul at (step_fits 1 a.level a.offset (node v g) w f legal is)
step_at_most_2047 (node v g) a w f (inr alone) is = omega (arith, way_in_alone a.level a.offset (node v g) alone)

-- The nodes of a tree

-- the number of nodes above line L, 0 where it is not open
rows_above : Tree → ℕ → ℕ
rows_above t L = length (path_of L t)

no_rows_or_open : (t : Tree) (L : ℕ) → (rows_above t L ≡ 0) ⊎ (is_open L t ≡ true)
unfolding rows_above path_of is_open found
no_rows_or_open t L =
    elim (path L t) as (λ o. (length (unwrap_or o []) ≡ 0) ⊎ (found o ≡ true)) [ None ↦ inl refl | Some rs ↦ inr refl ]

path_rows : (t : Tree) (L : ℕ) (rs : List Row) → path L t ≡ Some rs → rows_above t L ≡ length rs
unfolding rows_above path_of
path_rows t L rs h = rw h

module _ (w : ℕ) (f : ℕ → Tree) where
  open_under : (e L : ℕ) → e < w → is_open L (f e) ≡ true → is_open L (node w f) ≡ true
  unfolding Stands
  open_under e L below h =
      stands_open L (node w f) (w * period_of L (f e)) (e + w * start_of L (f e))
      record {
        edge = e;
        period = period_of L (f e);
        start = start_of L (f e);
        edge_below = below;
        stands = open_stands L (f e) h;
        period_is = refl;
        start_is = refl;
      }

  module _ (edges : Edges w f) (L : ℕ) where
    -- where line L is open, the node is one more above it, and only one edge leads to it
    node_adds_a_row : is_open L (node w f) ≡ true → total_below w (λ e. rows_above (f e) L) < rows_above (node w f) L
    unfolding is_open found
    node_adds_a_row h =
        let p = found_some (path L (node w f)) h in
        let x = path_below L w f p.0 p.1 in
        let here : is_open L (f x.edge) ≡ true = ap found x.path_is in
        omega (
          arith,
          total_only w (λ e. rows_above (f e) L) x.edge (others x.edge here),
          path_rows (f x.edge) L x.rest x.path_is,
          path_rows (node w f) L p.0 p.1,
          ap length x.rows_are,
        )
      where
        others : (k : ℕ) → is_open L (f k) ≡ true → (e : ℕ) → (e ≡ k → ⊥) → rows_above (f e) L ≡ 0
        others k here e other =
            elim (no_rows_or_open (f e) L) [ inl q ↦ q | inr there ↦ absurd (other (edges.line_once L e k there here)) ]

    -- and where it is not open, no edge leads to it
    node_keeps_rows : total_below w (λ e. rows_above (f e) L) ≤ rows_above (node w f) L
    node_keeps_rows =
        elim (no_rows_or_open (node w f) L) [
          | inr h ↦ omega (arith, node_adds_a_row h)
          | inl q ↦ omega (arith, total_at_most w (λ e. rows_above (f e) L) 0 (none_below q))
        ]
      where
        none_below : rows_above (node w f) L ≡ 0 → (e : ℕ) → e < w → rows_above (f e) L ≤ 0
        none_below q e below =
            elim (no_rows_or_open (f e) L) [
              | inl z ↦ omega arith
              | inr k ↦ absurd (omega (arith, node_adds_a_row (open_under e L below k)))
            ]

-- an empty node is not legal
holds_a_line : (m : ℕ) (t : Tree) → LegalUnder m t → present t ≡ true → (L : ℕ) × (L < 64) × (is_open L t ≡ true)
unfolding LegalUnder present Stands
holds_a_line m nothing legal here = let z : ◌≡◌ {A = ℕ} 0 1 = cc in absurd (omega arith)
holds_a_line m (line n) legal here = let b = legal.0 in (n, omega arith, stands_open n (line n) 1 0 (refl, refl, refl))
holds_a_line m (node w f) legal here =
    let e = some_below_true w _ legal.1.not_empty in
    let l = holds_a_line (m * w) (f e.0) (legal.2 e.0) e.2 in
    (l.0, l.1, open_under w f e.0 l.0 e.1 l.2)

-- every node stands above some line, so the nodes above each line, added up, count every node
nodes_at_most_rows : (m : ℕ) (t : Tree) → LegalUnder m t → nodes t ≤ total_below 64 (rows_above t)
unfolding LegalUnder nodes present
nodes_at_most_rows m nothing legal = omega arith
nodes_at_most_rows m (line n) legal = omega arith
nodes_at_most_rows m (node w f) legal =
    let l = holds_a_line m (node w f) legal refl in
    omega (
      arith,
      total_monotone w _ _ (λ e. nodes_at_most_rows (m * w) (f e) (legal.2 e)),
      total_exchange w 64 (λ e. rows_above (f e)),
      total_less 64 _ _ (node_keeps_rows w f legal.1) l.0 l.1 (node_adds_a_row w f legal.1 l.0 l.2),
    )

rows_at_most_11 : (t : Tree) → Legal t → (L : ℕ) → rows_above t L ≤ 11
unfolding is_open
rows_at_most_11 t legal L =
    elim (no_rows_or_open t L) [
      | inl q ↦ omega arith
      | inr h ↦
          let p = found_some (path L t) h in
          omega (arith, path_rows t L p.0 p.1, at_most_11_above t L p.0 legal p.1)
    ]

alone_one_node : (t : Tree) → Alone t → nodes t ≡ 1
unfolding nodes one_edge put total_below
alone_one_node t alone = rw alone.tree

-- at most 704 nodes in a tree: 64 lines with at most 11 nodes above each
pub at_most_704_nodes : (t : Tree) → Legal t → nodes t ≤ 704
unfolding Legal nodes
at_most_704_nodes nothing legal = omega arith
at_most_704_nodes (line n) legal = absurd legal
at_most_704_nodes (node w f) (inl legal) =
    omega (arith, nodes_at_most_rows 1 (node w f) legal, total_at_most 64 (rows_above (node w f)) 11 (λ L below. rows_at_most_11 (node w f) (inl legal) L))
at_most_704_nodes (node w f) (inr alone) = omega (arith, alone_one_node (node w f) alone)
