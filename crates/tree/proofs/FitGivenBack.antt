-- Opening a line and closing it again takes no fit away: the joins of the close take the split of the open back (specs/Closing.antt, specs/Opening.antt).
-- Assumes nothing.
use Prim.Native.Nat.{ℕ, zero, suc, ◌*◌, ◌/◌, ◌%◌, ◌<◌}
use native.Mathlib.Omega.{arith}
use native.Mathlib.Decide.{dec_lt, ℕ_discrete}
use native.Mathlib.Nat.{mod-lt, mod-eq_of_lt}
use mathlib.Core.Path.{◌≡◌, refl, sym, ◌∙◌, ap, subst, fun_ext}
use mathlib.Core.Logic.{◌⊎◌, inl, inr}
use mathlib.Core.Bool.{Bool, true, false, true≢false}
use Rattle.tree.specs.Tree.{Tree, nothing, line, node, present, Place, at_digits}
use Rattle.tree.specs.Standing.{Stands}
use Rattle.tree.specs.Shape.{LegalUnder, Alone, Legal}
use Rattle.tree.specs.Opening.{divisor, split, put, newcomer, candidate_at, class_at, booking, book_by_digits, opened}
use Rattle.tree.specs.Closing.{cleared, join_times, join_fully, closed}
use Rattle.tree.proofs.UnderEdge.{stands_under_none, stands_present, absent_nothing}
use Rattle.tree.proofs.Put.{put_same, put_other}
use Rattle.tree.proofs.Proper.{Proper, legal_under_proper}
use Rattle.tree.proofs.Standing.{stands_open}
use Rattle.tree.proofs.Classes.{free_absent}
use Rattle.tree.proofs.Split.{group_nothing, split_groups, split_whole, divisor_is_weight, split_keeps_starts}
use Rattle.tree.proofs.Booking.{Room, newcomer_stands, stands_newcomer, split_legal, split_beyond}
use Rattle.tree.proofs.BookingAt.{Fit, FitIn, steps, no_fit_in_nothing, no_fit_in_line, root_fit, below_fit, stands_booked, new_line_booked}
use Rattle.tree.proofs.Opening.{MayOpen, booked_in, alone_no_fit}
use Rattle.tree.proofs.Clearing.{proper_present_line, stands_cleared}
use Rattle.tree.proofs.Closing.{last_line_closed}
use Rattle.tree.proofs.SplitJoined.{split_joined_back}
use Rattle.tree.proofs.JoinedUp.{OfJoins, join_times_has}
use Rattle.tree.proofs.SomeCandidate.{nothing_has_none}
use Rattle.tree.proofs.ClosedUnderEdge.{closed_under_edge}
use Rattle.tree.proofs.ClosedCandidates.{CandidatesKept, candidates_of_joins, from_root, at_root}

-- The node that was booked into

module _ (d q w : ℕ) (f : ℕ → Tree) (i : ℕ) (room : Room d q w f i) where
  -- under the edge that the line takes nothing stood
  class_nothing : split d w f i ≡ nothing
  class_nothing =
      elim (dec_lt d w) [
        | yes small ↦ ap (λ (g : ℕ → Tree). g i) (split_groups d w f small) ∙ group_nothing d w f i room.class_free
        | no not_small ↦
            let whole = divisor_is_weight d w room.weight_positive room.divides_weight not_small in
            let below = room.class_below in
            ap (λ (g : ℕ → Tree). g i) (split_whole d w f (omega arith))
            ∙ absent_nothing (f i) (free_absent d w f i i room.class_free (omega arith) (mod-eq_of_lt below))
      ]

  put_nothing : put i nothing (split d w f) ≡ split d w f
  put_nothing = fun_ext λ e.
      elim (ℕ_discrete e i) [
        | yes same ↦ put_same i e nothing (split d w f) same ∙ sym (ap (split d w f) same ∙ class_nothing)
        | no other ↦ put_other i e nothing (split d w f) other
      ]

  module _ (m : ℕ) (legal : LegalUnder m (node w f)) where
    split_edge_proper : (e : ℕ) → Proper (split d w f e)
    split_edge_proper e = legal_under_proper (m * d) (split d w f e) (split_legal d w f room.divides_weight m e room.divisor_positive legal)

    -- a line that did not stand in the node stands under no edge of the split node
    split_edge_absent : (L : ℕ) → ((s u : ℕ) → Stands L (node w f) s u → ⊥) → (e s u : ℕ) → Stands L (split d w f e) s u → ⊥
    unfolding LegalUnder
    split_edge_absent L absent = stands_under_none L d (split d w f) (λ e beyond. split_beyond d w f room.divides_weight e room.divisor_positive legal.1 beyond)
        (λ s u h. absent s u ((split_keeps_starts L d w f room.weight_positive room.divides_weight s u room.divisor_positive).0 h))

    -- the joins take the split back
    split_taken_back : (R : Tree → Tree → Type 0) → OfJoins R → R (node w f) (join_fully (node d (split d w f)))
    unfolding LegalUnder join_fully join_times
    split_taken_back R holds =
        elim (dec_lt d w) [
          | yes small ↦
              rw (split_joined_back d w f legal.1 room.divisor_positive small room.divides_weight)
              (join_times_has R holds 9 (node w f))
          | no not_small ↦
              let whole = divisor_is_weight d w room.weight_positive room.divides_weight not_small in
              rw (split_whole d w f (omega arith), whole) (join_times_has R holds 10 (node w f))
        ]

-- The booking at a level and an offset, closed

module _ (L p i : ℕ) (R : Tree → Tree → Type 0) (holds : OfJoins R) where
  -- something is left when the line goes again
  something_left : (t : Tree) (m l r : ℕ) → FitIn p (m * steps l r t) i (at_digits l r t) → Proper t → present t ≡ true → ((q u : ℕ) → Stands L t q u → ⊥) →
      present (cleared L (book_by_digits L p i m l r t)) ≡ true
  something_left t m l r fit proper here absent =
      let old = proper_present_line t proper here in
      let K = old.0 in
      let booked = stands_booked L p i t m l r K old.1 old.2 fit old.3 in
      let other : K ≡ L → ⊥ = λ same. absent old.1 old.2 (subst (λ (n : ℕ). Stands n t old.1 old.2) same old.3) in
      stands_present K _ _ _ (stands_cleared L K (book_by_digits L p i m l r t) _ _ booked other)

  -- in the node that was booked into
  closed_booking : (m w : ℕ) (f : ℕ → Tree) → Fit p m w f i → LegalUnder m (node w f) → ((q u : ℕ) → Stands L (node w f) q u → ⊥) →
      present (cleared L (booking L p m w f i)) ≡ true → R (node w f) (closed L (booking L p m w f i))
  unfolding booking
  closed_booking m w f fit legal absent left =
      let d = divisor p m w in
      let q = p / (m * d) in
      let room = fit.room in
      let gone : closed L (newcomer L q) ≡ nothing = last_line_closed L (newcomer L q) (λ K s u h. (stands_newcomer K L q s u h).0) in
      let same = closed_under_edge L d i (newcomer L q) (split d w f) room.class_below (split_edge_absent d q w f i room m legal L absent) (split_edge_proper d q w f i room m legal) q 0 (newcomer_stands L q room.quotient_positive) left in
      rw (same, gone, put_nothing d q w f i room) (split_taken_back d q w f i room m legal R holds)

  -- and above it
  closed_booked : (t : Tree) (m l r : ℕ) → FitIn p (m * steps l r t) i (at_digits l r t) → LegalUnder m t → ((q u : ℕ) → Stands L t q u → ⊥) →
      R t (closed L (book_by_digits L p i m l r t))
  unfolding book_by_digits LegalUnder present Stands
  closed_booked nothing m l r fit legal absent = absurd (no_fit_in_nothing p (m * steps l r nothing) i l r fit)
  closed_booked (line n) m l r fit legal absent = absurd (no_fit_in_line p (m * steps l r (line n)) i n l r fit)
  closed_booked (node w f) m zero zero fit legal absent =
      closed_booking m w f (root_fit L p i m w f fit) legal absent (something_left (node w f) m 0 0 fit (legal_under_proper m (node w f) legal) refl absent)
  closed_booked (node w f) m zero (suc r) fit legal absent = absurd (unfold FitIn at_digits in fit)
  closed_booked (node w f) m (suc l) r fit legal absent =
      let e = r % w in
      let two = legal.0 in
      let below : e < w = mod-lt r (omega arith) in
      let proper = legal_under_proper m (node w f) legal in
      let sub = book_by_digits L p i (m * w) l (r / w) (f e) in
      let fit_below = below_fit L p i m w f l r fit in
      let none_below = stands_under_none L w f legal.1.below_weight absent in
      let new = new_line_booked L p i (f e) (m * w) l (r / w) (legal_under_proper (m * w) (f e) (legal.2 e)) fit_below in
      let left = something_left (node w f) m (suc l) r fit proper refl absent in
      let same = closed_under_edge L w e sub f below none_below (λ k. legal_under_proper (m * w) (f k) (legal.2 k)) new.period _ new.stands left in
      let closed_below = closed_booked (f e) (m * w) l (r / w) fit_below (legal.2 e) (none_below e) in
      let through = holds.under_an_edge w e f (closed L sub) closed_below in
      rw same (holds.next (node w f) (node w (put e (closed L sub) f)) _ through (unfold join_fully in join_times_has R holds 10 _))

-- Opening and closing

-- a root with room is no root of weight 1
root_legal_under : (L p : ℕ) (t : Tree) → MayOpen L p t → present t ≡ true → LegalUnder 1 t
unfolding Legal LegalUnder present
root_legal_under L p nothing may here = tt
root_legal_under L p (line n) may here = absurd may.legal
root_legal_under L p (node w f) may here = go may.legal
  where
    go : LegalUnder 1 (node w f) ⊎ Alone (node w f) → LegalUnder 1 (node w f)
    go (inl legal) = legal
    go (inr alone) =
        let x = booked_in L p (node w f) may here in
        let a = x.place in
        absurd (alone_no_fit p (1 * steps a.level a.offset (node w f)) (class_at p (node w f) a) (node w f) a.level a.offset alone x.fits)

-- What holds of joins holds from a tree to the tree that was opened and closed.
pub opened_then_closed : (R : Tree → Tree → Type 0) → OfJoins R → (L p : ℕ) (t : Tree) → MayOpen L p t → present t ≡ true → R t (closed L (opened L p t))
opened_then_closed R holds L p t may here =
    let x = booked_in L p t may here in
    let a = x.place in
    let absent : (q u : ℕ) → Stands L t q u → ⊥ = λ q u h. true≢false (sym (stands_open L t q u h) ∙ may.not_open) in
    rw x.tree (closed_booked L p (class_at p t a) R holds t 1 a.level a.offset x.fits (root_legal_under L p t may here) absent)

-- Opening a line and closing it again takes no fit away.
pub fit_given_back : (L p : ℕ) (t : Tree) → MayOpen L p t → (x : ℕ) (a : Place) → candidate_at x t a ≡ true → (b : Place) × (candidate_at x (closed L (opened L p t)) b ≡ true)
fit_given_back L p t may x a h = go (present t) refl
  where
    go : (b : Bool) → present t ≡ b → (b : Place) × (candidate_at x (closed L (opened L p t)) b ≡ true)
    go true here =
        at_root x (closed L (opened L p t))
        ((opened_then_closed CandidatesKept candidates_of_joins L p t may here).candidates x 1 (root_legal_under L p t may here) (from_root x t a h))
    go false gone = absurd (nothing_has_none x 1 (from_root x nothing a (rw (absent_nothing t gone) at h)))
