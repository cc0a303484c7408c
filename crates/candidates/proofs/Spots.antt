-- What a node on a path has to offer, and from which round on.
-- Assumes nothing.
use Rattle.std.specs.Prelude.{if◌then◌else◌, Option, None, Some, option_map}
use Prim.Native.Nat.{ℕ, zero, suc, ◌+◌, ◌*◌, ◌/◌, ◌%◌, ◌<◌, ◌≤◌}
use native.Mathlib.Omega.{arith}
use native.Mathlib.Nat.{le_of_dvd, mul-le-mul_right, mul_comm, zero-mod, add-mul, one-mul}
use mathlib.Core.Path.{◌≡◌, refl, sym, ◌∙◌, subst}
use mathlib.Core.Bool.{Bool, true, false, not, true≢false}
use mathlib.Core.List.{List}
use Rattle.std.proofs.lemmas.Option.{none-some, same_Some}
use borrow.Author.Tests.{eq-eqb, not-true}
use lib.ListN.{length, take}
use Rattle.tree.specs.declared.Row.{Row}
use Rattle.tree.specs.Numbers.{divides, gcd}
use Rattle.tree.specs.Tree.{product, sum}
use Rattle.tree.specs.Opening.{divisor}
use Rattle.tree.specs.Record.{row_at, path_at, legal}
use Rattle.tree.proofs.Divisors.{gcd_divides_left}
use Rattle.tree.proofs.Searching.{smallest_some, some_below_at}
use Rattle.paths.specs.Rules.{Family, row_of, same_node, class_taken, Spot, spot_start, class_on_path, spot_with, spot_at}
use Rattle.paths.proofs.PathRows.{weight_read}
use Rattle.paths.proofs.PathNumbers.{Carried, carried_row, carried_below, carried_small, edge_below_weight}
use Rattle.paths.proofs.SameNode.{same_node_by_edges}

-- The offer of one node

-- an offer is that of a class which is free, at the node's place
record OfferOf (family : Family) (p L l : ℕ) (s : Spot) : Type 0 where
  pub step_divides : divides (product (take l (family L))) p ≡ true
  pub class_is : class_on_path family (family L) l (divisor p (product (take l (family L))) (row_of l (family L)).weight) ≡ Some s.class
  pub offset_is : s.offset ≡ sum (take l (family L))
  pub step_is : s.step ≡ product (take l (family L))

offer_of : (family : Family) (p L l : ℕ) (s : Spot) → spot_at family p L l ≡ Some s → OfferOf family p L l s
unfolding spot_at spot_with
offer_of family p L l s h = go (divides m p) refl (class_on_path family (family L) l d) refl h
  where
    m : ℕ
    m = product (take l (family L))

    d : ℕ
    d = divisor p m (row_of l (family L)).weight

    here : ℕ → Spot
    here i = record { line = L; level = l; offset = sum (take l (family L)); step = m; divisor = d; class = i }

    go : (b : Bool) → divides m p ≡ b → (o : Option ℕ) → class_on_path family (family L) l d ≡ o → (if b then option_map here o else None) ≡ Some s → OfferOf family p L l s
    go true divided None class e = absurd (none-some s e)
    go true divided (Some i) class e =
        let same = same_Some (here i) s e in
        subst (OfferOf family p L l) same (record { step_divides = divided; class_is = class; offset_is = refl; step_is = refl })
    go false other o class e = absurd (none-some s e)

pub step_not_dividing : (family : Family) (p L l : ℕ) → divides (product (take l (family L))) p ≡ false → spot_at family p L l ≡ None
unfolding spot_at spot_with
step_not_dividing family p L l other = rw other

-- From which round on a node offers

-- nothing is offered before the node's offset
pub offer_from_offset : (family : Family) (p L l : ℕ) (s : Spot) → spot_at family p L l ≡ Some s → sum (take l (family L)) ≤ spot_start s
unfolding spot_start
offer_from_offset family p L l s h = omega (arith, (offer_of family p L l s h).offset_is)

same_node_self : (l : ℕ) (ps : List Row) → l < length ps → same_node l ps ps ≡ true
same_node_self l ps there = same_node_by_edges l ps ps there there (λ k above. refl)

-- the line's own edge takes its class
own_edge_takes : (family : Family) (L l d : ℕ) → L < 64 → l < length (family L) → class_taken family (family L) l d ((row_of l (family L)).edge % d) ≡ true
unfolding class_taken
own_edge_takes family L l d below there =
    some_below_at 64 _ L below (rw (same_node_self l (family L) there) (eq-eqb ((row_of l (family L)).edge % d) ((row_of l (family L)).edge % d) refl))

-- where the line takes edge 0, class 0 is taken, so nothing is offered before offset + step
pub offer_past_edge_0 : (family : Family) (p L l : ℕ) → L < 64 → l < length (family L) → (row_of l (family L)).edge ≡ 0 → (s : Spot) → spot_at family p L l ≡ Some s →
    sum (take l (family L)) + product (take l (family L)) ≤ spot_start s
unfolding spot_start class_on_path
offer_past_edge_0 family p L l below there edge_0 s h =
    let x = offer_of family p L l s h in
    let d = divisor p (product (take l (family L))) (row_of l (family L)).weight in
    let smallest_free = smallest_some d (λ i. not (class_taken family (family L) l d i)) s.class x.class_is in
    let taken : class_taken family (family L) l d 0 ≡ true = rw (edge_0, zero-mod d) at (own_edge_takes family L l d below there) in
    let positive = positive_class (class_taken family (family L) l d) s.class smallest_free.passes taken in
    let scaled : 1 * s.step ≤ s.class * s.step = mul-le-mul_right s.step positive in
    omega (arith, scaled, one-mul s.step, x.offset_is, x.step_is)
  where
    positive_class : (taken : ℕ → Bool) (i : ℕ) → not (taken i) ≡ true → taken 0 ≡ true → 0 < i
    positive_class taken zero free h0 = absurd (true≢false (sym h0 ∙ not-true (taken 0) free))
    positive_class taken (suc i) free h0 = omega arith

-- The offer in a legal record

module _ {rows : List ℕ} (is_legal : legal rows ≡ true) {L : ℕ} (line_below : L < 64) {l : ℕ} (there : l < length (path_at rows L)) {m r : ℕ} (carried : Carried rows L m r l) where
  -- a class below a divisor of the weight: its start is below the product of the step and the weight
  pub start_small : (p : ℕ) {w : ℕ} → w ≡ (row_at rows L l).weight → {d : ℕ} → d ≡ gcd w (p / m) → {class : ℕ} → class_on_path (path_at rows) (path_at rows L) l d ≡ Some class → r + class * m ≤ 4095
  unfolding class_on_path
  start_small p {w} read {d} common {class} found =
      let smallest_free = smallest_some d _ class found in
      let weight_is = weight_read rows L there read in
      let below_edge = edge_below_weight rows is_legal L line_below there in
      let divides_weight : d ≤ w = rw common (le_of_dvd (omega (arith, weight_is, below_edge)) (gcd_divides_left w (p / m))) in
      let more : (class + 1) * m ≤ w * m = mul-le-mul_right m (omega (arith, smallest_free.in_range)) in
      let next = (carried_small (carried_row carried there refl read) is_legal line_below).0 in
      omega (arith, carried_below carried is_legal line_below, more, add-mul class 1 m, one-mul m, mul_comm w m, next)
