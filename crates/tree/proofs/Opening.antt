-- Opening a line (specs/Opening.antt): the new line stands with the period asked and the start answered, every other line as before,
-- and the opened tree is legal.
-- Assumes nothing.
use Prim.Native.Nat.{ℕ, zero, suc, ◌+◌, ◌*◌, ◌/◌, ◌%◌, ◌<◌, ◌≤◌}
use native.Mathlib.Omega.{arith}
use native.Mathlib.Decide.{ℕ_discrete}
use native.Mathlib.Nat.{one-mul, mul-zero, div-eq_of_lt}
use mathlib.Core.Path.{◌≡◌, refl, sym, ◌∙◌, ap, subst}
use mathlib.Core.Logic.{◌⊎◌, inl, inr}
use mathlib.Core.Bool.{true, false}
use Rattle.std.specs.Prelude.{Some}
use borrow.Author.Tests.{not-false}
use Rattle.tree.specs.Tree.{Tree, nothing, line, node, present, is_open, Place, at_digits, at, way, step}
use Rattle.tree.specs.Standing.{Stands}
use Rattle.tree.specs.Shape.{LegalUnder, Alone, Legal}
use Rattle.tree.specs.Opening.{divisor, candidate_at, class_at, start_at, put, one_edge, book_by_digits, book_into, chosen, opened, start_in, start_given}
use Rattle.tree.proofs.Searching.{found_some}
use Rattle.tree.proofs.Put.{put_each, one_edge_stands, stands_one_edge}
use Rattle.tree.proofs.Proper.{Proper, one_edge_edges, legal_proper}
use Rattle.tree.specs.Refusals.{no_room}
use Rattle.tree.proofs.ChosenCandidate.{chosen_is_chosen}
use Rattle.tree.proofs.BookingAt.{FitIn, candidate_fits, steps, no_fit_in_nothing, no_fit_in_line, stands_booked, new_line_booked, booked_stands, booked_legal, booked_root_legal}
use Rattle.tree.proofs.Booking.{divisor_at_least_2}

-- The chosen candidate has room

pub at_proper : (l r : ℕ) (t : Tree) → Proper t → Proper (at_digits l r t)
unfolding at_digits Proper
at_proper zero zero t proper = proper
at_proper zero (suc r) t proper = tt
at_proper (suc l) r nothing proper = tt
at_proper (suc l) r (line n) proper = tt
at_proper (suc l) r (node w f) proper = at_proper l (r / w) (f (r % w)) (proper.2 (r % w))

pub chosen_fits : (p : ℕ) (t : Tree) (a : Place) → 0 < p → Proper t → chosen p t ≡ Some a →
    FitIn p (1 * steps a.level a.offset t) (class_at p t a) (at_digits a.level a.offset t)
unfolding class_at candidate_at at step way
chosen_fits p t a positive proper e =
    rw one-mul
    (candidate_fits p (step a t) (at a t) positive (at_proper a.level a.offset t proper) (chosen_is_chosen p t a proper e).is_candidate)

-- a root of weight 1 has none
one_edge_no_fit : (p m i n l r : ℕ) → FitIn p m i (at_digits l r (one_edge 1 (line n))) → ⊥
unfolding one_edge at_digits FitIn present
one_edge_no_fit p m i n zero zero h =
    let d = divisor p m 1 in
    let room = h.room in
    let two = divisor_at_least_2 d (p / (m * d)) 1 (put 0 (line n) (λ e. nothing)) i room (one_edge_edges 1 (line n) (omega arith) refl) in
    let no_row : d * (1 / d) ≡ 0 = ap (λ (k : ℕ). d * k) (div-eq_of_lt two) ∙ mul-zero d in
    let one = room.divides_weight in
    omega arith
one_edge_no_fit p m i n zero (suc r) h = h
one_edge_no_fit p m i n (suc l) r h =
    put_each (λ (t : Tree). FitIn p m i (at_digits l (r / 1) t) → ⊥) 0 (line n) (λ e. nothing)
    (no_fit_in_line p m i n l (r / 1)) (λ e other. no_fit_in_nothing p m i l (r / 1)) (r % 1) h

pub alone_no_fit : (p m i : ℕ) (t : Tree) (l r : ℕ) → Alone t → FitIn p m i (at_digits l r t) → ⊥
alone_no_fit p m i t l r alone fit =
    one_edge_no_fit p m i alone.number l r (subst (λ (x : Tree). FitIn p m i (at_digits l r x)) alone.tree fit)

-- The opened tree

-- an open of line L with period p that passes its checks, on a legal tree
pub record MayOpen (L p : ℕ) (t : Tree) : Type 0 where
  pub legal : Legal t
  pub number_in_range : L ≤ 63
  pub period_positive : 0 < p
  pub period_in_range : p ≤ 4095
  pub not_open : is_open L t ≡ false
  pub has_room : no_room p t ≡ false

-- in a tree that is not empty, a candidate was chosen
pub room_chosen : (p : ℕ) (t : Tree) → present t ≡ true → no_room p t ≡ false → (a : Place) × (chosen p t ≡ Some a)
unfolding no_room
room_chosen p t here h = found_some (chosen p t) (not-false _ (rw here at h))

pub opened_empty : (L p : ℕ) → opened L p nothing ≡ one_edge p (line L)
unfolding opened present
opened_empty L p = refl

pub start_empty : (p : ℕ) → start_given p nothing ≡ 0
unfolding start_given present
start_empty p = refl

-- where the line is booked in a tree that is not empty
pub record Booked (L p : ℕ) (t : Tree) : Type 0 where
  pub place : Place
  pub fits : FitIn p (1 * steps place.level place.offset t) (class_at p t place) (at_digits place.level place.offset t)
  pub tree : opened L p t ≡ book_by_digits L p (class_at p t place) 1 place.level place.offset t
  pub start : start_given p t ≡ place.offset + class_at p t place * steps place.level place.offset t

pub booked_in : (L p : ℕ) (t : Tree) → MayOpen L p t → present t ≡ true → Booked L p t
unfolding opened book_into start_given start_in start_at step way
booked_in L p t may here =
    let x = room_chosen p t here may.has_room in
    record {
      place = x.0;
      fits = chosen_fits p t x.0 may.period_positive (legal_proper t may.legal) x.1;
      tree = rw (here, x.1);
      start = rw (here, x.1);
    }

module _ (L p : ℕ) where
  empty_legal : L ≤ 63 → 0 < p → p ≤ 4095 → Legal (one_edge p (line L))
  unfolding Legal LegalUnder one_edge present
  empty_legal number positive range =
      elim (ℕ_discrete p 1) [
        | yes one ↦ inr (record { number = L; number_in_range = number; tree = rw one })
        | no more ↦ inl (
          omega arith,
          one_edge_edges p (line L) positive refl,
          put_each (LegalUnder (1 * p)) 0 (line L) (λ e. nothing) (number, (let x = one-mul p in omega arith)) (λ e other. tt),
        )
      ]

  -- the opened tree is legal
  pub opened_legal : (t : Tree) → MayOpen L p t → Legal (opened L p t)
  unfolding Legal present
  opened_legal nothing may = rw (opened_empty L p) (empty_legal may.number_in_range may.period_positive may.period_in_range)
  opened_legal (line n) may = absurd may.legal
  opened_legal (node w f) may =
      let x = booked_in L p (node w f) may refl in
      rw x.tree (root_legal may.legal x.place x.fits)
    where
      root_legal : Legal (node w f) → (a : Place) →
          FitIn p (1 * steps a.level a.offset (node w f)) (class_at p (node w f) a) (at_digits a.level a.offset (node w f)) →
          Legal (book_by_digits L p (class_at p (node w f) a) 1 a.level a.offset (node w f))
      root_legal (inl legal) a fit =
          booked_root_legal L p (class_at p (node w f) a) w f a.level a.offset
          (booked_legal L p (class_at p (node w f) a) (node w f) 1 a.level a.offset may.number_in_range may.period_in_range may.not_open fit legal)
      root_legal (inr alone) a fit = absurd (alone_no_fit p (1 * steps a.level a.offset (node w f)) (class_at p (node w f) a) (node w f) a.level a.offset alone fit)

  -- the new line stands with the period asked and the start answered
  pub opened_new : (t : Tree) → MayOpen L p t → Stands L (opened L p t) p (start_given p t)
  unfolding Legal present
  opened_new nothing may = rw (opened_empty L p, start_empty p) (one_edge_stands L p may.period_positive)
  opened_new (line n) may = absurd may.legal
  opened_new (node w f) may =
      let x = booked_in L p (node w f) may refl in
      let a = x.place in
      let new = new_line_booked L p (class_at p (node w f) a) (node w f) 1 a.level a.offset (legal_proper (node w f) may.legal) x.fits in
      let asked : new.period ≡ p = sym (one-mul new.period) ∙ new.period_is in
      rw (x.tree, x.start) (rw asked at new.stands)

  -- every line that stood in the tree stands as before
  pub opened_others : (t : Tree) (K q u : ℕ) → MayOpen L p t → Stands K t q u → Stands K (opened L p t) q u
  unfolding Legal present Stands
  opened_others nothing K q u may h = absurd h
  opened_others (line n) K q u may h = absurd may.legal
  opened_others (node w f) K q u may h =
      let x = booked_in L p (node w f) may refl in
      let a = x.place in
      rw x.tree (stands_booked L p (class_at p (node w f) a) (node w f) 1 a.level a.offset K q u x.fits h)

  -- and no other line stands in it
  pub opened_only : (t : Tree) (K q u : ℕ) → MayOpen L p t → Stands K (opened L p t) q u → Stands K t q u ⊎ ((K ≡ L) × (q ≡ p) × (u ≡ start_given p t))
  unfolding Legal present
  opened_only nothing K q u may h =
      let x = stands_one_edge K L p q u (rw (opened_empty L p) at h) in
      inr (x.0, x.1, x.2 ∙ sym (start_empty p))
  opened_only (line n) K q u may h = absurd may.legal
  opened_only (node w f) K q u may h =
      let x = booked_in L p (node w f) may refl in
      let a = x.place in
      elim (booked_stands L p (class_at p (node w f) a) (node w f) 1 a.level a.offset K q u x.fits (rw x.tree at h)) [
        | inl old ↦ inl old
        | inr new ↦ inr (new.0, sym (one-mul q) ∙ new.1, new.2 ∙ sym x.start)
      ]
