-- An open splits the chosen node exactly where that node's weight changes, and where it splits none, no node's weight changes.
-- Assumes nothing.
use Prim.Native.Nat.{ℕ, zero, suc, ◌*◌, ◌/◌, ◌%◌}
use native.Mathlib.Omega.{arith}
use native.Mathlib.Decide.{dec_lt, ℕ_discrete}
use native.Mathlib.Nat.{one-mul, mul-one, mul_assoc, mod-eq_of_lt}
use mathlib.Core.Path.{◌≡◌, refl, ap}
use mathlib.Core.Logic.{◌↔◌}
use mathlib.Core.Bool.{true, false, true≢false}
use Rattle.std.specs.Prelude.{Some}
use Rattle.std.proofs.lemmas.Option.{none-some}
use lib.Dec.{ltb}
use borrow.Author.Tests.{ltb-true, ltb-false, lt-ltb}
use Rattle.tree.specs.Tree.{Tree, nothing, line, node, present, product, Place, at_digits, at, way_by_digits, way, step, weight_of}
use Rattle.tree.specs.Opening.{divisor, put, newcomer, booking, book_by_digits, class_at, book_into, chosen, opened}
use Rattle.tree.specs.Trial.{is_split, weight_at}
use Rattle.tree.proofs.Put.{put_same, put_other}
use Rattle.tree.proofs.Proper.{legal_proper}
use Rattle.tree.proofs.Classes.{free_absent}
use Rattle.tree.proofs.Split.{split_whole, divisor_is_weight}
use Rattle.tree.proofs.BookingAt.{Fit, FitIn, steps, no_fit_in_nothing, no_fit_in_line, root_fit, below_fit}
use Rattle.tree.proofs.Opening.{MayOpen, chosen_fits}

-- The weight of the chosen node

-- what is booked into at a place stands there afterwards
at_booked : (L p i m l r : ℕ) (t : Tree) → at_digits l r (book_by_digits L p i m l r t) ≡ book_by_digits L p i (m * steps l r t) 0 0 (at_digits l r t)
unfolding at_digits book_by_digits way_by_digits product
at_booked L p i m zero zero nothing = refl
at_booked L p i m zero zero (line n) = refl
at_booked L p i m zero zero (node w f) = rw mul-one
at_booked L p i m zero (suc r) t = refl
at_booked L p i m (suc l) r nothing = refl
at_booked L p i m (suc l) r (line n) = refl
at_booked L p i m (suc l) r (node w f) =
    let e = r % w in
    rw (put_same e e (book_by_digits L p i (m * w) l (r / w) (f e)) f refl, ← mul_assoc) (at_booked L p i (m * w) l (r / w) (f e))

-- in the node that is booked into, which is a node before and afterwards
weights_here : (L p m i : ℕ) (t : Tree) → FitIn p m i t →
    (w : ℕ) × (d : ℕ) × (weight_of t ≡ Some w) × (weight_of (book_by_digits L p i m 0 0 t) ≡ Some d)
unfolding FitIn weight_of book_by_digits booking
weights_here L p m i nothing fit = absurd fit
weights_here L p m i (line n) fit = absurd fit
weights_here L p m i (node w f) fit = (w, divisor p m w, refl, refl)

split_changes_weight_here : (L p m i : ℕ) (t : Tree) → FitIn p m i t →
    (is_split p m t ≡ true) ↔ (weight_of (book_by_digits L p i m 0 0 t) ≡ weight_of t → ⊥)
unfolding FitIn is_split weight_of book_by_digits booking
split_changes_weight_here L p m i nothing fit = absurd fit
split_changes_weight_here L p m i (line n) fit = absurd fit
split_changes_weight_here L p m i (node w f) fit = (changes, changed)
  where
    d : ℕ
    d = divisor p m w

    changes : ltb d w ≡ true → Some d ≡ Some w → ⊥
    changes small same =
        let equal : d ≡ w = cc in
        omega (arith, ltb-true d w small)

    changed : (Some d ≡ Some w → ⊥) → ltb d w ≡ true
    changed another =
        elim (dec_lt d w) [
          | yes small ↦ lt-ltb d w small
          | no not_small ↦ absurd (another (ap Some (divisor_is_weight d w fit.room.weight_positive fit.room.divides_weight not_small)))
        ]

module _ (L p : ℕ) (t : Tree) (a : Place) (may : MayOpen L p t) (here : present t ≡ true) (is_chosen : chosen p t ≡ Some a) where
  fits_place : FitIn p (step a t) (class_at p t a) (at a t)
  unfolding step way at
  fits_place = let fit = chosen_fits p t a may.period_positive (legal_proper t may.legal) is_chosen in rw one-mul at fit

  at_opened : at a (opened L p t) ≡ book_by_digits L p (class_at p t a) (step a t) 0 0 (at a t)
  unfolding opened book_into step way at
  at_opened = rw (here, is_chosen, at_booked L p (class_at p t a) 1 a.level a.offset t, one-mul)

  -- the chosen node has a weight before and afterwards
  pub chosen_weights : (w : ℕ) × (d : ℕ) × (weight_at a t ≡ Some w) × (weight_at a (opened L p t) ≡ Some d)
  unfolding weight_at
  chosen_weights = rw at_opened (weights_here L p (step a t) (class_at p t a) (at a t) fits_place)

  -- and it is split exactly when the weight changes
  pub split_changes_weight : (is_split p (step a t) (at a t) ≡ true) ↔ (weight_at a (opened L p t) ≡ weight_at a t → ⊥)
  unfolding weight_at
  split_changes_weight = rw at_opened (split_changes_weight_here L p (step a t) (class_at p t a) (at a t) fits_place)

-- The weights of all nodes, where none is split

-- every node of t stands in u with its weight
abbrev KeepsWeights : Tree → Tree → Type 0
KeepsWeights t u = (l r w : ℕ) → weight_of (at_digits l r t) ≡ Some w → weight_of (at_digits l r u) ≡ Some w

pub nothing_no_weight : (l r w : ℕ) → weight_of (at_digits l r nothing) ≡ Some w → ⊥
unfolding at_digits weight_of
nothing_no_weight zero zero w h = none-some w h
nothing_no_weight zero (suc r) w h = none-some w h
nothing_no_weight (suc l) r w h = none-some w h

absent_keeps_weights : (t u : Tree) → present t ≡ false → KeepsWeights t u
unfolding present
absent_keeps_weights nothing u absent l r w h = absurd (nothing_no_weight l r w h)
absent_keeps_weights (line n) u absent l r w h = absurd (true≢false absent)
absent_keeps_weights (node v f) u absent l r w h = absurd (true≢false absent)

put_keeps_weights : (v : ℕ) (f : ℕ → Tree) (k : ℕ) (u : Tree) → KeepsWeights (f k) u → KeepsWeights (node v f) (node v (put k u f))
unfolding at_digits weight_of
put_keeps_weights v f k u keeps zero zero w h = h
put_keeps_weights v f k u keeps zero (suc r) w h = h
put_keeps_weights v f k u keeps (suc l) r w h =
    elim (ℕ_discrete (r % v) k) [
      | yes same ↦ rw (put_same k (r % v) u f same) (keeps l (r / v) w (rw same at h))
      | no other ↦ rw (put_other k (r % v) u f other) h
    ]

-- a node that is not split keeps its weight and its edges, and what it gets stands where nothing stood
booking_keeps_weights : (L p m w : ℕ) (f : ℕ → Tree) (i : ℕ) → Fit p m w f i → ltb (divisor p m w) w ≡ false → KeepsWeights (node w f) (booking L p m w f i)
unfolding booking
booking_keeps_weights L p m w f i fit unsplit =
    let d = divisor p m w in
    let room = fit.room in
    let large = ltb-false d w unsplit in
    let whole = divisor_is_weight d w room.weight_positive room.divides_weight (λ small. omega arith) in
    let below = room.class_below in
    let absent = free_absent d w f i i room.class_free (omega arith) (mod-eq_of_lt below) in
    rw (split_whole d w f large, whole) (put_keeps_weights w f i (newcomer L (p / (m * w))) (absent_keeps_weights (f i) _ absent))

booked_keeps_weights : (L p i : ℕ) (t : Tree) (m l r : ℕ) → FitIn p (m * steps l r t) i (at_digits l r t) → is_split p (m * steps l r t) (at_digits l r t) ≡ false →
    KeepsWeights t (book_by_digits L p i m l r t)
unfolding book_by_digits FitIn is_split at_digits way_by_digits product
booked_keeps_weights L p i nothing m l r fit unsplit = absurd (no_fit_in_nothing p (m * steps l r nothing) i l r fit)
booked_keeps_weights L p i (line n) m l r fit unsplit = absurd (no_fit_in_line p (m * steps l r (line n)) i n l r fit)
booked_keeps_weights L p i (node w f) m zero zero fit unsplit =
    booking_keeps_weights L p m w f i (root_fit L p i m w f fit) (rw mul-one at unsplit)
booked_keeps_weights L p i (node w f) m zero (suc r) fit unsplit = absurd fit
booked_keeps_weights L p i (node w f) m (suc l) r fit unsplit =
    let e = r % w in
    put_keeps_weights w f e (book_by_digits L p i (m * w) l (r / w) (f e))
    (booked_keeps_weights L p i (f e) (m * w) l (r / w) (below_fit L p i m w f l r fit) (rw mul_assoc unsplit))

-- where the chosen node is not split, every node keeps its weight
pub unsplit_keeps_weights : (L p : ℕ) (t : Tree) (a : Place) → MayOpen L p t → present t ≡ true → chosen p t ≡ Some a → is_split p (step a t) (at a t) ≡ false →
    (b : Place) (w : ℕ) → weight_at b t ≡ Some w → weight_at b (opened L p t) ≡ Some w
unfolding opened book_into step way at weight_at
unsplit_keeps_weights L p t a may here is_chosen unsplit b =
    let fit = chosen_fits p t a may.period_positive (legal_proper t may.legal) is_chosen in
    rw (here, is_chosen) (booked_keeps_weights L p (class_at p t a) t 1 a.level a.offset fit (rw one-mul unsplit) b.level b.offset)
