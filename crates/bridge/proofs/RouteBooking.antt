-- Routes after a booking: the new line's route, and what becomes of the routes that go through the node booked into and of those that do not.
-- Assumes nothing.
use Rattle.std.specs.Prelude.{if◌then◌else◌}
use Prim.Native.Nat.{ℕ, zero, suc, ◌+◌, ◌*◌, ◌/◌, ◌%◌, ◌<◌}
use native.Mathlib.Omega.{arith}
use native.Mathlib.Decide.{dec_lt, ℕ_discrete}
use native.Mathlib.Nat.{mul-one, mul_assoc, mod-lt, mod-eq_of_lt}
use mathlib.Core.Path.{◌≡◌, refl, sym, ◌∙◌, ap, subst, subst₂}
use mathlib.Core.Bool.{true, false, false≢true}
use mathlib.Core.List.{List, [], ◌∷◌}
use lib.Dec.{eqb, ltb}
use lib.ListN.{length, take}
use borrow.Author.Tests.{eq-eqb, ne_eqb, lt-ltb, le-ltb}
use Rattle.tree.specs.declared.Row.{Row}
use Rattle.tree.specs.Tree.{Tree, nothing, line, node, row, product, present, at_digits, way_by_digits}
use Rattle.tree.specs.Opening.{divisor, split, put, one_edge, newcomer, booking, book_by_digits}
use Rattle.paths.specs.Rules.{split_path, booked_path}
use Rattle.tree.proofs.Digits.{digits_of}
use Rattle.tree.proofs.UnderEdge.{stands_present}
use Rattle.tree.proofs.Put.{put_same, put_other}
use Rattle.tree.proofs.Proper.{Proper}
use Rattle.tree.proofs.Classes.{present_taken}
use Rattle.tree.proofs.Split.{group_node, split_groups, split_whole, divisor_is_weight, quotient_below}
use Rattle.tree.proofs.Booking.{Room, newcomer_line, newcomer_node, booked_edges, not_in_class}
use Rattle.tree.proofs.BookingAt.{Fit, steps}
use Rattle.bridge.proofs.Route.{Route, route_under, route_stands}

-- Something put under an edge

route_put_same : (M w i : ℕ) (t : Tree) (f : ℕ → Tree) (rs : List Row) → i < w → Route M t rs → Route M (node w (put i t f)) (row w i ∷ rs)
route_put_same M w i t f rs below h = route_under M w (put i t f) i rs below (rw (put_same i i t f refl) h)

route_put_other : (M w i : ℕ) (t : Tree) (f : ℕ → Tree) (e : ℕ) (rs : List Row) → e < w → (e ≡ i → ⊥) → Route M (f e) rs → Route M (node w (put i t f)) (row w e ∷ rs)
route_put_other M w i t f e rs below other h = route_under M w (put i t f) e rs below (rw (put_other i e t f other) h)

-- The newcomer

pub one_edge_route : (L w : ℕ) → 0 < w → Route L (one_edge w (line L)) (row w 0 ∷ [])
unfolding one_edge
one_edge_route L w positive = route_put_same L w 0 (line L) (λ e. nothing) [] positive (unfold Route in (refl, refl))

newcomer_route : (L q : ℕ) → 0 < q → Route L (newcomer L q) (if eqb q 1 then [] else (row q 0 ∷ []))
newcomer_route L q positive =
    elim (ℕ_discrete q 1) [
      | yes one ↦ rw (newcomer_line L q one, eq-eqb q 1 one) (unfold Route in (refl, refl))
      | no more ↦ rw (newcomer_node L q more, ne_eqb q 1 more) (one_edge_route L q positive)
    ]

-- The booking into a node

-- a path through a node of weight w at level l, after a booking with divisor d
abbrev pub rebooked : ℕ → ℕ → ℕ → List Row → List Row
rebooked l d w rs = if ltb d w then split_path l d rs else rs

module _ (L d q w : ℕ) (f : ℕ → Tree) (i : ℕ) (room : Room d q w f i) where
  new_line_route : Route L (node d (booked_edges L d q w f i)) (booked_path [] d i q)
  unfolding booked_path
  new_line_route =
      route_put_same L d i (newcomer L q) (split d w f) _ room.class_below (newcomer_route L q room.quotient_positive)

  -- a line under edge e is under the edge of its class afterwards
  module _ (M e : ℕ) (rs : List Row) (below : e < w) (h : Route M (f e) rs) where
    edge_present : present (f e) ≡ true
    edge_present = stands_present M (f e) _ _ (route_stands M (f e) rs h)

    group_route : d < w → Route M (split d w f (e % d)) (row (w / d) (e / d) ∷ rs)
    group_route small =
        rw (split_groups d w f small, group_node d w f (e % d) (present_taken d w f e below edge_present))
        (route_under M (w / d) (λ j. f (e % d + d * j)) (e / d) rs (quotient_below d w e room.divisor_positive room.divides_weight below)
        (rw (digits_of e d) h))

    edge_route : Route M (node d (booked_edges L d q w f i)) (rebooked 0 d w (row w e ∷ rs))
    unfolding split_path
    edge_route =
        elim (dec_lt d w) [
          | yes small ↦
              rw (lt-ltb d w small)
              (route_put_other M d i (newcomer L q) (split d w f) (e % d) _ (mod-lt e room.divisor_positive) (not_in_class L d q w f i room e below edge_present) (group_route small))
          | no not_small ↦
              let whole = divisor_is_weight d w room.weight_positive room.divides_weight not_small in
              let same : e % d ≡ e = mod-eq_of_lt (subst (λ (n : ℕ). e < n) (sym whole) below) in
              rw (le-ltb d w (omega arith))
              (subst (λ (n : ℕ). Route M (node d (booked_edges L d q w f i)) (row n e ∷ rs)) whole
              (route_put_other M d i (newcomer L q) (split d w f) e rs (omega arith) (λ class. not_in_class L d q w f i room e below edge_present (same ∙ class))
              (rw (split_whole d w f (omega arith)) h)))
        ]

  through_route : (M : ℕ) (rs : List Row) → Route M (node w f) rs → Route M (node d (booked_edges L d q w f i)) (rebooked 0 d w rs)
  unfolding Route
  through_route M rs h = rw h.rows_are (edge_route M h.edge h.rest h.edge_below h.route)

-- The booking at a level and an offset

rebooked_row : (l d w : ℕ) (r : Row) (rs : List Row) → rebooked (suc l) d w (r ∷ rs) ≡ r ∷ rebooked l d w rs
unfolding split_path
rebooked_row l d w r rs =
    elim (ltb d w) as (λ b. (if b then r ∷ split_path l d rs else r ∷ rs) ≡ r ∷ (if b then split_path l d rs else rs)) [ true ↦ refl | false ↦ refl ]

rows_same : (w e k : ℕ) (rs qs : List Row) → ◌≡◌ {A = List Row} (row w e ∷ rs) (row w k ∷ qs) → (e ≡ k) × (rs ≡ qs)
rows_same w e k rs qs h =
    let heads : ◌≡◌ {A = Row} (row w e) (row w k) = cc in
    (ap (λ (r : Row). r.edge) heads, (cc))

-- The node of weight w and edges f, of step n, stands at a level and an offset of a tree whose root has step m.
pub data Reached (n w : ℕ) (f : ℕ → Tree) : ℕ → ℕ → ℕ → Tree → Type 0 where
  at_root : Reached n w f n 0 0 (node w f)
  under_edge : {m l r v : ℕ} {g : ℕ → Tree} → Reached n w f (m * v) l (r / v) (g (r % v)) → Reached n w f m (suc l) r (node v g)

pub reached : (n w : ℕ) (f : ℕ → Tree) (m l r : ℕ) (t : Tree) → at_digits l r t ≡ node w f → m * steps l r t ≡ n → Reached n w f m l r t
unfolding at_digits way_by_digits product present
reached n w f m zero zero t e s = subst₂ (λ (k : ℕ) (x : Tree). Reached n w f k 0 0 x) (sym s ∙ mul-one m) (sym e) at_root
reached n w f m zero (suc r) t e s = absurd (false≢true (ap present e))
reached n w f m (suc l) r nothing e s = absurd (false≢true (ap present e))
reached n w f m (suc l) r (line k) e s = absurd (false≢true (ap present e))
reached n w f m (suc l) r (node v g) e s = under_edge (reached n w f (m * v) l (r / v) (g (r % v)) e (mul_assoc m v _ ∙ s))

pub reached_present : {n w : ℕ} {f : ℕ → Tree} {m l r : ℕ} {t : Tree} → Reached n w f m l r t → present t ≡ true
unfolding present
reached_present at_root = refl
reached_present (under_edge x) = refl

module _ (L p i n w : ℕ) (f : ℕ → Tree) where
  -- a line that does not go through the node keeps its route
  pub booked_route_beside : {m l r : ℕ} {t : Tree} (M : ℕ) (rs : List Row) → Reached n w f m l r t → Route M t rs →
      (take l rs ≡ way_by_digits l r t → l < length rs → ⊥) → Route M (book_by_digits L p i m l r t) rs
  unfolding book_by_digits way_by_digits Route
  booked_route_beside M rs at_root h beside =
      let long = ap length h.rows_are in
      absurd (beside refl (omega arith))
  booked_route_beside M rs (under_edge {l = l} {r = r} {v = v} {g = g} x) h beside =
      let long = ap length h.rows_are in
      elim (ℕ_discrete h.edge (r % v)) [
        | yes same ↦
            rw (h.rows_are, same)
            (route_put_same M v (r % v) _ g h.rest (mod-lt r (omega arith))
            (booked_route_beside M h.rest x (rw same at h.route) λ above longer. beside (ap (take (suc l)) h.rows_are ∙ rw (same, above)) (omega arith)))
        | no other ↦ rw h.rows_are (route_put_other M v (r % v) _ g h.edge h.rest h.edge_below other h.route)
      ]

  module _ (fit : Fit p n w f i) where
    -- the new line's route
    pub booked_route_new : {m l r : ℕ} {t : Tree} → Proper t → Reached n w f m l r t →
        Route L (book_by_digits L p i m l r t) (booked_path (way_by_digits l r t) (divisor p n w) i (p / (n * divisor p n w)))
    unfolding book_by_digits booking way_by_digits booked_path Proper
    booked_route_new proper at_root = new_line_route L _ _ w f i fit.room
    booked_route_new proper (under_edge {r = r} {v = v} {g = g} x) =
        route_put_same L v (r % v) _ g _ (mod-lt r proper.0) (booked_route_new (proper.2 (r % v)) x)

    -- a line that goes through the node is split with it
    pub booked_route_through : {m l r : ℕ} {t : Tree} (M : ℕ) (rs : List Row) → Reached n w f m l r t → Route M t rs →
        take l rs ≡ way_by_digits l r t → l < length rs → Route M (book_by_digits L p i m l r t) (rebooked l (divisor p n w) w rs)
    unfolding book_by_digits booking way_by_digits Route
    booked_route_through M rs at_root h same long = through_route L _ _ w f i fit.room M rs h
    booked_route_through M rs (under_edge {l = l} {r = r} {v = v} {g = g} x) h same long =
        let heads = rows_same v h.edge (r % v) _ _ (ap (take (suc l)) (sym h.rows_are) ∙ same) in
        let longer = ap length h.rows_are in
        rw (h.rows_are, rebooked_row, heads.0)
        (route_put_same M v (r % v) _ g _ (mod-lt r (omega arith)) (booked_route_through M h.rest x (rw heads.0 at h.route) heads.1 (omega arith)))
