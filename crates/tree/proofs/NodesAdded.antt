-- How many nodes an open adds (specs/Trial.antt): those of the split, where the chosen node is split, and the newcomer's, where it has one.
-- So an open never leaves fewer nodes than there were.
-- Assumes nothing.
use Rattle.std.specs.Prelude.{if◌then◌else◌, Option, None, Some}
use Prim.Native.Nat.{ℕ, zero, suc, ◌+◌, ◌*◌, ◌/◌, ◌%◌, ◌<◌, ◌≤◌}
use native.Mathlib.Omega.{arith}
use native.Mathlib.Decide.{dec_lt}
use native.Mathlib.Nat.{one-mul, mul-one, mul_assoc, mod-lt, mod-eq_of_lt}
use mathlib.Core.Path.{◌≡◌, refl, ap, subst}
use mathlib.Core.Bool.{Bool, true, false, not}
use lib.Dec.{eqb, ltb}
use borrow.Author.Tests.{lt-ltb, le-ltb}
use Rattle.tree.specs.Search.{total_below, count_below}
use Rattle.tree.specs.Tree.{Tree, nothing, line, node, present, product, Place, at_digits, at, way_by_digits, way, step, nodes}
use Rattle.tree.specs.Shape.{Legal}
use Rattle.tree.specs.Opening.{divisor, free, put, one_edge, group, split, newcomer, booking, book_by_digits, class_at, book_into, chosen, opened}
use Rattle.tree.specs.Refusals.{open_refusal}
use Rattle.tree.specs.Calls.{open_line, refusal, carried_out, tree_unless, after}
use Rattle.tree.specs.Trial.{trial}
use Rattle.tree.proofs.Digits.{digit_low, digits_below}
use Rattle.tree.proofs.Put.{put_same, put_other, put_each}
use Rattle.tree.proofs.Proper.{Proper, legal_proper}
use Rattle.tree.proofs.Totals.{total_at_most, total_plus, total_same, total_change, total_digits}
use Rattle.tree.proofs.Classes.{free_absent}
use Rattle.tree.proofs.Split.{group_nothing, group_node, split_groups, split_whole, divisor_is_weight}
use Rattle.tree.proofs.BookingAt.{Fit, FitIn, steps, no_fit_in_nothing, no_fit_in_line, root_fit, below_fit}
use Rattle.tree.proofs.Opening.{MayOpen, room_chosen, chosen_fits, opened_empty}
use Rattle.tree.proofs.Checks.{open_may}

-- The newcomer's node

absent_no_nodes : (t : Tree) → present t ≡ false → nodes t ≡ 0
unfolding present nodes
absent_no_nodes nothing absent = refl
absent_no_nodes (line n) absent = refl
absent_no_nodes (node w f) absent = let z : ◌≡◌ {A = ℕ} 0 1 = cc in absurd (omega arith)

one_edge_nodes : (w n : ℕ) → nodes (one_edge w (line n)) ≡ 1
unfolding nodes one_edge
one_edge_nodes w n =
    omega (arith, total_at_most w _ 0 (λ e below. put_each (λ t. nodes t ≤ 0) 0 (line n) (λ k. nothing) (omega arith) (λ k other. omega arith) e))

newcomer_nodes : (L q : ℕ) → nodes (newcomer L q) ≡ (if eqb q 1 then 0 else 1)
unfolding newcomer nodes
newcomer_nodes L q =
    elim (eqb q 1) as (λ b. nodes (if b then line L else one_edge q (line L)) ≡ (if b then 0 else 1)) [ true ↦ refl | false ↦ one_edge_nodes q L ]

-- The nodes of a split

-- a node for each class that is not free, where the node is split
abbrev pub groups_added : ℕ → ℕ → (ℕ → Tree) → ℕ
groups_added d w f = if ltb d w then count_below d (λ k. not (free d w f k)) else 0

module _ (d w : ℕ) (f : ℕ → Tree) (positive : 0 < w) (divides : d * (w / d) ≡ w) where
  -- no node stands under an edge of a free class
  free_no_nodes : (k : ℕ) → k < d → free d w f k ≡ true → (j : ℕ) → j < w / d → nodes (f (k + d * j)) ≡ 0
  free_no_nodes k below is_free j j_below =
      let in_weight = subst (λ (n : ℕ). k + d * j < n) divides (digits_below d (w / d) k j below j_below) in
      absent_no_nodes (f (k + d * j)) (free_absent d w f k (k + d * j) is_free in_weight (digit_low d k j below))

  -- a group has the nodes under the edges of its class, and itself where the class is not free
  group_nodes : (k : ℕ) → k < d → nodes (group d w f k) ≡ total_below (w / d) (λ j. nodes (f (k + d * j))) + (if not (free d w f k) then 1 else 0)
  unfolding nodes
  group_nodes k below = go (free d w f k) refl
    where
      go : (b : Bool) → free d w f k ≡ b → nodes (group d w f k) ≡ total_below (w / d) (λ j. nodes (f (k + d * j))) + (if not (free d w f k) then 1 else 0)
      go true e =
          rw (e, group_nothing d w f k e)
          (omega (arith, total_at_most (w / d) (λ j. nodes (f (k + d * j))) 0 (λ j j_below. omega (arith, free_no_nodes k below e j j_below))))
      go false e = rw (e, group_node d w f k e) (omega arith)

  -- so a split moves every node, loses none, and adds the groups
  split_nodes : total_below d (λ k. nodes (split d w f k)) ≡ total_below w (λ e. nodes (f e)) + groups_added d w f
  unfolding count_below
  split_nodes =
      elim (dec_lt d w) [
        | yes small ↦
            let sums = total_digits d (w / d) (λ e. nodes (f e)) in
            rw (lt-ltb d w small, split_groups d w f small)
            (omega (
              arith,
              total_same d (λ k. nodes (group d w f k)) _ group_nodes,
              total_plus d (λ k. total_below (w / d) (λ j. nodes (f (k + d * j)))) (λ k. if not (free d w f k) then 1 else 0),
              rw divides at sums,
            ))
        | no not_small ↦
            rw (le-ltb d w (omega arith), split_whole d w f (omega arith), divisor_is_weight d w positive divides not_small) (omega arith)
      ]

  -- no node stands under the edge of a free class in the split node
  split_free : (i : ℕ) → i < d → free d w f i ≡ true → nodes (split d w f i) ≡ 0
  unfolding nodes
  split_free i below is_free =
      elim (dec_lt d w) [
        | yes small ↦ rw (split_groups d w f small, group_nothing d w f i is_free)
        | no not_small ↦
            let whole = divisor_is_weight d w positive divides not_small in
            rw (split_whole d w f (omega arith)) (absent_no_nodes (f i) (free_absent d w f i i is_free (omega arith) (mod-eq_of_lt below)))
      ]

-- The nodes that a booking adds

-- to a node of step m and weight w, for period p
unfoldable pub nodes_added : ℕ → ℕ → ℕ → (ℕ → Tree) → ℕ
nodes_added p m w f =
    let d = divisor p m w in
    groups_added d w f + (if eqb (p / (m * d)) 1 then 0 else 1)

-- the same of any tree, 0 where it is no node
unfoldable pub nodes_added_in : ℕ → ℕ → Tree → ℕ
nodes_added_in p m nothing = 0
nodes_added_in p m (line n) = 0
nodes_added_in p m (node w f) = nodes_added p m w f

-- where something else stands under edge i of a node
put_nodes : (w : ℕ) (f : ℕ → Tree) (i : ℕ) (t : Tree) → i < w → nodes (node w (put i t f)) + nodes (f i) ≡ nodes (node w f) + nodes t
unfolding nodes
put_nodes w f i t below =
    let change = total_change w (λ e. nodes (f e)) (λ e. nodes (put i t f e)) i below (λ e other. ap nodes (put_other i e t f other)) in
    omega (arith, ap nodes (put_same i i t f refl))

module _ (L p : ℕ) where
  booking_nodes : (m w : ℕ) (f : ℕ → Tree) (i : ℕ) → Fit p m w f i → nodes (booking L p m w f i) ≡ nodes (node w f) + nodes_added p m w f
  unfolding nodes booking nodes_added
  booking_nodes m w f i fit =
      let d = divisor p m w in
      let q = p / (m * d) in
      let room = fit.room in
      omega (
        arith,
        put_nodes d (split d w f) i (newcomer L q) room.class_below,
        split_nodes d w f room.weight_positive room.divides_weight,
        split_free d w f room.weight_positive room.divides_weight i room.class_below room.class_free,
        newcomer_nodes L q,
      )

  booked_nodes : (i : ℕ) (t : Tree) (m l r : ℕ) → Proper t → FitIn p (m * steps l r t) i (at_digits l r t) →
      nodes (book_by_digits L p i m l r t) ≡ nodes t + nodes_added_in p (m * steps l r t) (at_digits l r t)
  unfolding Proper book_by_digits FitIn nodes_added_in at_digits way_by_digits product
  booked_nodes i nothing m l r proper fit = absurd (no_fit_in_nothing p (m * steps l r nothing) i l r fit)
  booked_nodes i (line n) m l r proper fit = absurd (no_fit_in_line p (m * steps l r (line n)) i n l r fit)
  booked_nodes i (node w f) m zero zero proper fit = rw mul-one (booking_nodes m w f i (root_fit L p i m w f fit))
  booked_nodes i (node w f) m zero (suc r) proper fit = absurd fit
  booked_nodes i (node w f) m (suc l) r proper fit =
      let e = r % w in
      let sub = book_by_digits L p i (m * w) l (r / w) (f e) in
      let below = booked_nodes i (f e) (m * w) l (r / w) (proper.2 e) (below_fit L p i m w f l r fit) in
      omega (arith, put_nodes w f e sub (mod-lt r proper.0), rw (mul_assoc m w (steps l (r / w) (f e))) at below)

-- The nodes that an open adds

-- a root of weight p, in the empty plan
pub opened_nodes_empty : (L p : ℕ) → nodes (opened L p nothing) ≡ 1
opened_nodes_empty L p = rw (opened_empty L p) (one_edge_nodes p L)

-- those of the booking into the chosen candidate, in any other
pub opened_nodes : (L p : ℕ) (t : Tree) (a : Place) → MayOpen L p t → present t ≡ true → chosen p t ≡ Some a →
    nodes (opened L p t) ≡ nodes t + nodes_added_in p (step a t) (at a t)
unfolding opened book_into step way at
opened_nodes L p t a may here is_chosen =
    let proper = legal_proper t may.legal in
    let fit = chosen_fits p t a may.period_positive proper is_chosen in
    let booked = booked_nodes L p (class_at p t a) t 1 a.level a.offset proper fit in
    rw (here, is_chosen) (rw one-mul at booked)

-- never fewer
pub opened_at_least_nodes : (L p : ℕ) (t : Tree) → MayOpen L p t → nodes t ≤ nodes (opened L p t)
unfolding Legal nodes present
opened_at_least_nodes L p nothing may = omega arith
opened_at_least_nodes L p (line n) may = absurd may.legal
opened_at_least_nodes L p (node w f) may =
    let x = room_chosen p (node w f) refl may.has_room in
    omega (arith, opened_nodes L p (node w f) x.0 may refl x.1)

-- whatever is asked, and refused or not
pub open_never_lowers_nodes : (L p : ℕ) (t : Tree) → Legal t → nodes t ≤ nodes (after (open_line L p) t)
unfolding after refusal carried_out tree_unless
open_never_lowers_nodes L p t legal = go (open_refusal L p t) refl
  where
    go : (o : Option ℕ) → open_refusal L p t ≡ o → nodes t ≤ nodes (tree_unless o t (opened L p t))
    go (Some n) e = omega arith
    go None e = opened_at_least_nodes L p t (open_may L p t legal e)

-- What a trial tells of them

pub trial_added : (L p : ℕ) (t : Tree) (a : Place) → MayOpen L p t → present t ≡ true → chosen p t ≡ Some a →
    (trial L p t).added ≡ nodes_added_in p (step a t) (at a t)
unfolding trial
trial_added L p t a may here is_chosen = omega (arith, opened_nodes L p t a may here is_chosen)

pub trial_added_empty : (L p : ℕ) → (trial L p nothing).added ≡ 1
unfolding trial nodes
trial_added_empty L p = omega (arith, opened_nodes_empty L p)
