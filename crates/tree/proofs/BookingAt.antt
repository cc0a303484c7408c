-- The booking at a level and an offset of a tree (`book_by_digits` of specs/Opening.antt): the line stands with its period and start,
-- every other line as before, and what is legal stays legal.
-- Assumes nothing.
use Prim.Native.Nat.{ℕ, zero, suc, ◌+◌, ◌*◌, ◌/◌, ◌%◌, ◌<◌, ◌≤◌}
use native.Mathlib.Omega.{arith}
use native.Mathlib.Decide.{ℕ_discrete}
use native.Mathlib.Nat.{mul_assoc, mul-add, mul-one, mul-zero, zero-add, add_assoc, mod-lt, mul-div_cancel', div-div-eq-div-mul, eq-zero-or-pos, mul_left_comm}
use mathlib.Core.Path.{◌≡◌, refl, sym, ◌∙◌, ap, subst}
use mathlib.Core.Logic.{◌⊎◌, inl, inr}
use mathlib.Core.Bool.{true, false, false≢true, not-eq-not, and-eq-true_iff}
use Rattle.std.specs.Prelude.{Some, unwrap_or}
use Rattle.tree.specs.Search.{found}
use Rattle.tree.specs.Numbers.{divides, gcd}
use Rattle.tree.specs.Tree.{Tree, nothing, line, node, present, is_open, period_of, start_of, product, at_digits, way_by_digits}
use Rattle.tree.specs.Standing.{Stands}
use Rattle.tree.specs.Shape.{Edges, LegalUnder, Legal}
use Rattle.tree.specs.Opening.{divisor, free, free_class, candidate, put, booking, book_by_digits}
use Rattle.tree.proofs.Digits.{digits_of}
use Rattle.tree.proofs.Divisors.{divides_true, gcd_divides_left, gcd_divides_right, gcd_positive}
use Rattle.tree.proofs.Searching.{found_some, smallest_some, some_below_at}
use Rattle.tree.proofs.Put.{InPut, NotInPut, put_stands, stands_put_same, stands_put_keeps, put_same, put_other, put_each, under_put_edge}
use Rattle.tree.proofs.Proper.{Proper}
use Rattle.tree.proofs.Standing.{stands_open, open_stands, not_open_below}
use Rattle.tree.proofs.Booking.{Room, stands_with_line, new_line_stands, with_line_stands, with_line_legal}

-- A candidate has room

-- line L fits a node of step m and weight w in class i: there is room, and the weights multiply to the period asked
pub record Fit (p m w : ℕ) (f : ℕ → Tree) (i : ℕ) : Type 0 where
  pub room : Room (divisor p m w) (p / (m * divisor p m w)) w f i
  pub period_is : m * (divisor p m w * (p / (m * divisor p m w))) ≡ p

-- the same of whatever tree, which has to be a node
unfoldable pub FitIn : ℕ → ℕ → ℕ → Tree → Type 0
FitIn p m i nothing = ⊥
FitIn p m i (line n) = ⊥
FitIn p m i (node w f) = Fit p m w f i

factors : (p m w : ℕ) → divides m p ≡ true → m * (divisor p m w * (p / (m * divisor p m w))) ≡ p
unfolding divisor
factors p m w h =
    let d = gcd w (p / m) in
    ap (λ (n : ℕ). m * (d * n)) (sym (div-div-eq-div-mul p m d))
    ∙ ap (λ (n : ℕ). m * n) (mul-div_cancel' d (gcd_divides_right w (p / m)))
    ∙ mul-div_cancel' m (divides_true m p h)

factor_positive : (m d q p : ℕ) → 0 < p → m * (d * q) ≡ p → 0 < q
factor_positive m d q p positive h = go (eq-zero-or-pos q)
  where
    go : (q ≡ 0) ⊎ (0 < q) → 0 < q
    go (inl z) =
        let p0 : p ≡ 0 = sym h ∙ ap (λ (n : ℕ). m * (d * n)) z ∙ simp mul-zero in
        absurd (omega arith)
    go (inr k) = k

class_fits : (p m w : ℕ) (f : ℕ → Tree) (i : ℕ) → 0 < p → 0 < w → divides m p ≡ true → free_class p m (node w f) ≡ Some i → Fit p m w f i
unfolding free_class
class_fits p m w f i p_positive w_positive h class =
    let s = smallest_some (divisor p m w) (free (divisor p m w) w f) i class in
    record {
      room =
          record {
            divisor_positive = (unfold divisor in gcd_positive w (p / m) w_positive);
            weight_positive = w_positive;
            quotient_positive = factor_positive m (divisor p m w) (p / (m * divisor p m w)) p p_positive (factors p m w h);
            divides_weight = (unfold divisor in mul-div_cancel' (divisor p m w) (gcd_divides_left w (p / m)));
            class_below = s.in_range;
            class_free = s.passes;
          };
      period_is = factors p m w h;
    }

pub candidate_fits : (p m : ℕ) (t : Tree) → 0 < p → Proper t → candidate p m t ≡ true → FitIn p m (unwrap_or (free_class p m t) 0) t
unfolding candidate free_class FitIn Proper found
candidate_fits p m nothing positive proper h = absurd (false≢true ((and-eq-true_iff (divides m p) false).0 h).1)
candidate_fits p m (line n) positive proper h = absurd (false≢true ((and-eq-true_iff (divides m p) false).0 h).1)
candidate_fits p m (node w f) positive proper h =
    let both = (and-eq-true_iff (divides m p) (found (free_class p m (node w f)))).0 h in
    let x = found_some (free_class p m (node w f)) both.1 in
    rw x.1 (class_fits p m w f x.0 positive proper.0 both.0 x.1)

-- A tree with line L and the lines that stood under edge k, put there

-- a line under an edge afterwards was under that edge before, or is the new line in the edge that was put
module _ (L w : ℕ) (f : ℕ → Tree) (k : ℕ) (t : Tree) (old_or_new : (K : ℕ) → is_open K t ≡ true → (is_open K (f k) ≡ true) ⊎ (K ≡ L)) where
  under_before : (K e : ℕ) → is_open K (put k t f e) ≡ true → (is_open K (f e) ≡ true) ⊎ ((K ≡ L) × (e ≡ k))
  under_before K e open_there =
      elim (ℕ_discrete e k) [
        | yes same ↦ inside same (old_or_new K (rw (put_same k e t f same) at open_there))
        | no other ↦ inl (rw (put_other k e t f other) at open_there)
      ]
    where
      inside : e ≡ k → (is_open K (f k) ≡ true) ⊎ (K ≡ L) → (is_open K (f e) ≡ true) ⊎ ((K ≡ L) × (e ≡ k))
      inside same (inl h) = inl (rw same h)
      inside same (inr h) = inr (h, same)

  pub put_edges : k < w → present t ≡ true → ((e : ℕ) → is_open L (f e) ≡ true → ⊥) → Edges w f → Edges w (put k t f)
  put_edges below here new edges =
      record {
        below_weight = λ e beyond. put_other k e t f (λ same. omega arith) ∙ edges.below_weight e beyond;
        not_empty = some_below_at w _ k below (ap present (put_same k k t f refl) ∙ here);
        line_once = λ K a b open_a open_b. once K a b (under_before K a open_a) (under_before K b open_b);
      }
    where
      once : (K a b : ℕ) → (is_open K (f a) ≡ true) ⊎ ((K ≡ L) × (a ≡ k)) → (is_open K (f b) ≡ true) ⊎ ((K ≡ L) × (b ≡ k)) → a ≡ b
      once K a b (inl x) (inl y) = edges.line_once K a b x y
      once K a b (inl x) (inr y) = absurd (new a (rw y.0 at x))
      once K a b (inr x) (inl y) = absurd (new b (rw x.0 at y))
      once K a b (inr x) (inr y) = x.1 ∙ sym y.1

-- The booking at a level and an offset

-- the weights above what stands there, multiplied
abbrev pub steps : ℕ → ℕ → Tree → ℕ
steps l r t = product (way_by_digits l r t)

pub no_fit_in_nothing : (p m i l r : ℕ) → FitIn p m i (at_digits l r nothing) → ⊥
unfolding FitIn at_digits
no_fit_in_nothing p m i zero zero h = h
no_fit_in_nothing p m i zero (suc r) h = h
no_fit_in_nothing p m i (suc l) r h = h

pub no_fit_in_line : (p m i n l r : ℕ) → FitIn p m i (at_digits l r (line n)) → ⊥
unfolding FitIn at_digits
no_fit_in_line p m i n zero zero h = h
no_fit_in_line p m i n zero (suc r) h = h
no_fit_in_line p m i n (suc l) r h = h

-- line L stands in t with a period that m makes p
pub record NewLine (L p m u : ℕ) (t : Tree) : Type 0 where
  pub period : ℕ
  pub period_is : m * period ≡ p
  pub stands : Stands L t period u

module _ (L p i : ℕ) where
  pub root_fit : (m w : ℕ) (f : ℕ → Tree) → FitIn p (m * steps 0 0 (node w f)) i (at_digits 0 0 (node w f)) → Fit p m w f i
  unfolding FitIn at_digits way_by_digits product
  root_fit m w f h = rw mul-one at h

  pub below_fit : (m w : ℕ) (f : ℕ → Tree) (l r : ℕ) → FitIn p (m * steps (suc l) r (node w f)) i (at_digits (suc l) r (node w f)) →
      FitIn p (m * w * steps l (r / w) (f (r % w))) i (at_digits l (r / w) (f (r % w)))
  unfolding at_digits way_by_digits product
  below_fit m w f l r h = rw (mul_assoc m w (steps l (r / w) (f (r % w)))) h

  -- every line that stood in the tree stands as before
  pub stands_booked : (t : Tree) (m l r K q u : ℕ) → FitIn p (m * steps l r t) i (at_digits l r t) → Stands K t q u → Stands K (book_by_digits L p i m l r t) q u
  unfolding book_by_digits
  stands_booked nothing m l r K q u fit h = h
  stands_booked (line n) m l r K q u fit h = h
  stands_booked (node w f) m zero zero K q u fit h =
      (unfold booking in stands_with_line L (divisor p m w) (p / (m * divisor p m w)) w f i (root_fit m w f fit).room K q u h)
  stands_booked (node w f) m zero (suc r) K q u fit h = absurd (unfold FitIn at_digits in fit)
  stands_booked (node w f) m (suc l) r K q u fit h =
      stands_put_keeps K w (r % w) (book_by_digits L p i (m * w) l (r / w) (f (r % w))) f q u
      (λ x s below. stands_booked (f (r % w)) (m * w) l (r / w) K x s (below_fit m w f l r fit) below) h

  -- a period and a start counted from an edge, and from its node
  period_up : (m w x : ℕ) → m * w * x ≡ p → m * (w * x) ≡ p
  period_up m w x h = sym (mul_assoc m w x) ∙ h

  root_start : (w : ℕ) (f : ℕ → Tree) → i ≡ 0 + i * steps 0 0 (node w f)
  unfolding way_by_digits product
  root_start w f = sym (mul-one i) ∙ sym (zero-add (i * 1))

  start_up : (w l r : ℕ) (f : ℕ → Tree) →
      r % w + w * (r / w + i * steps l (r / w) (f (r % w))) ≡ r + i * steps (suc l) r (node w f)
  unfolding way_by_digits product
  start_up w l r f =
      let P = steps l (r / w) (f (r % w)) in
      rw (mul-add w (r / w) (i * P), mul_left_comm w i P)
      (sym (add_assoc (r % w) (w * (r / w)) (i * (w * P))) ∙ ap (λ (n : ℕ). n + i * (w * P)) (digits_of r w))

  -- the new line stands with the period asked and the start answered
  pub new_line_booked : (t : Tree) (m l r : ℕ) → Proper t → FitIn p (m * steps l r t) i (at_digits l r t) →
      NewLine L p m (r + i * steps l r t) (book_by_digits L p i m l r t)
  unfolding book_by_digits Proper
  new_line_booked nothing m l r proper fit = absurd (no_fit_in_nothing p (m * steps l r nothing) i l r fit)
  new_line_booked (line n) m l r proper fit = absurd (no_fit_in_line p (m * steps l r (line n)) i n l r fit)
  new_line_booked (node w f) m zero zero proper fit =
      let d = divisor p m w in
      let here = root_fit m w f fit in
      record {
        period = d * (p / (m * d));
        period_is = here.period_is;
        stands =
            subst (λ (u : ℕ). Stands L (booking L p m w f i) (d * (p / (m * d))) u)
            (root_start w f)
            (unfold booking in new_line_stands L d (p / (m * d)) w f i here.room);
      }
  new_line_booked (node w f) m zero (suc r) proper fit = absurd (unfold FitIn at_digits in fit)
  new_line_booked (node w f) m (suc l) r proper fit =
      let e = r % w in
      let sub = book_by_digits L p i (m * w) l (r / w) (f e) in
      let below = new_line_booked (f e) (m * w) l (r / w) (proper.2 e) (below_fit m w f l r fit) in
      record {
        period = w * below.period;
        period_is = period_up m w below.period below.period_is;
        stands =
            stands_put_same L w e sub f (w * below.period) (r + i * steps (suc l) r (node w f))
            (record {
              edge_below = mod-lt r proper.0;
              period = below.period;
              start = r / w + i * steps l (r / w) (f e);
              stands = below.stands;
              period_is = refl;
              start_is = sym (start_up w l r f);
            });
      }

  -- what stands in the tree afterwards stood in it, or is the new line
  abbrev pub OldOrNew : ℕ → ℕ → ℕ → Tree → ℕ → ℕ → ℕ → Type 0
  OldOrNew m l r t K q u = Stands K t q u ⊎ ((K ≡ L) × (m * q ≡ p) × (u ≡ r + i * steps l r t))

  old_or_new_root : (m w : ℕ) (f : ℕ → Tree) (K q u : ℕ) → Fit p m w f i → Stands K (booking L p m w f i) q u → OldOrNew m 0 0 (node w f) K q u
  unfolding booking
  old_or_new_root m w f K q u fit h = go (with_line_stands L d (p / (m * d)) w f i fit.room K q u h)
    where
      d : ℕ
      d = divisor p m w

      go : Stands K (node w f) q u ⊎ ((K ≡ L) × (q ≡ d * (p / (m * d))) × (u ≡ i)) → OldOrNew m 0 0 (node w f) K q u
      go (inl x) = inl x
      go (inr x) = inr (x.0, ap (λ (n : ℕ). m * n) x.1 ∙ fit.period_is, x.2 ∙ root_start w f)

  old_or_new_below : (m w : ℕ) (f : ℕ → Tree) (l r K q u : ℕ) (t : Tree) →
      ((x s : ℕ) → Stands K t x s → OldOrNew (m * w) l (r / w) (f (r % w)) K x s) →
      Stands K (node w (put (r % w) t f)) q u → OldOrNew m (suc l) r (node w f) K q u
  unfolding Stands
  old_or_new_below m w f l r K q u t below h = go (put_stands K w (r % w) t f q u h)
    where
      inside : (x : InPut K w (r % w) t q u) → OldOrNew (m * w) l (r / w) (f (r % w)) K x.period x.start → OldOrNew m (suc l) r (node w f) K q u
      inside x (inl old) = inl (under_put_edge x old)
      inside x (inr new) =
          inr (
            new.0,
            ap (λ (n : ℕ). m * n) x.period_is ∙ period_up m w x.period new.1,
            x.start_is ∙ ap (λ (n : ℕ). r % w + w * n) new.2 ∙ start_up w l r f,
          )

      go : InPut K w (r % w) t q u ⊎ NotInPut K w (r % w) f q u → OldOrNew m (suc l) r (node w f) K q u
      go (inl x) = inside x (below x.period x.start x.stands)
      go (inr x) = inl x.in_node

  pub booked_stands : (t : Tree) (m l r K q u : ℕ) → FitIn p (m * steps l r t) i (at_digits l r t) → Stands K (book_by_digits L p i m l r t) q u → OldOrNew m l r t K q u
  unfolding book_by_digits
  booked_stands nothing m l r K q u fit h = inl h
  booked_stands (line n) m l r K q u fit h = inl h
  booked_stands (node w f) m zero zero K q u fit h = old_or_new_root m w f K q u (root_fit m w f fit) h
  booked_stands (node w f) m zero (suc r) K q u fit h = absurd (unfold FitIn at_digits in fit)
  booked_stands (node w f) m (suc l) r K q u fit h =
      old_or_new_below m w f l r K q u (book_by_digits L p i (m * w) l (r / w) (f (r % w)))
      (λ x s below. booked_stands (f (r % w)) (m * w) l (r / w) K x s (below_fit m w f l r fit) below) h

  -- the tree stays legal

  booked_present : (t : Tree) (m l r : ℕ) → FitIn p (m * steps l r t) i (at_digits l r t) → present (book_by_digits L p i m l r t) ≡ true
  unfolding book_by_digits present booking
  booked_present nothing m l r fit = absurd (no_fit_in_nothing p (m * steps l r nothing) i l r fit)
  booked_present (line n) m l r fit = refl
  booked_present (node w f) m zero r fit = refl
  booked_present (node w f) m (suc l) r fit = refl

  booked_open : (t : Tree) (m l r K : ℕ) → FitIn p (m * steps l r t) i (at_digits l r t) → is_open K (book_by_digits L p i m l r t) ≡ true → (is_open K t ≡ true) ⊎ (K ≡ L)
  booked_open t m l r K fit h =
      let sub = book_by_digits L p i m l r t in
      elim (booked_stands t m l r K (period_of K sub) (start_of K sub) fit (open_stands K sub h)) [
        | inl old ↦ inl (stands_open K t (period_of K sub) (start_of K sub) old)
        | inr new ↦ inr new.0
      ]

  pub booked_legal : (t : Tree) (m l r : ℕ) → L ≤ 63 → p ≤ 4095 → is_open L t ≡ false → FitIn p (m * steps l r t) i (at_digits l r t) → LegalUnder m t → LegalUnder m (book_by_digits L p i m l r t)
  unfolding book_by_digits LegalUnder
  booked_legal nothing m l r number range new fit legal = tt
  booked_legal (line n) m l r number range new fit legal = legal
  booked_legal (node w f) m zero zero number range new fit legal =
      let here = root_fit m w f fit in
      let d = divisor p m w in
      let period : m * (d * (p / (m * d))) ≤ 4095 = rw here.period_is range in
      (unfold booking in with_line_legal L d (p / (m * d)) w f i here.room m number period new legal)
  booked_legal (node w f) m zero (suc r) number range new fit legal = absurd (unfold FitIn at_digits in fit)
  booked_legal (node w f) m (suc l) r number range new fit legal =
      let e = r % w in
      let two = legal.0 in
      let edge_below : e < w = mod-lt r (omega arith) in
      let fit_below = below_fit m w f l r fit in
      let sub = book_by_digits L p i (m * w) l (r / w) (f e) in
      let absent = not_open_below L w f legal.1 new in (
        legal.0,
        put_edges L w f e sub (λ K h. booked_open (f e) (m * w) l (r / w) K fit_below h) edge_below (booked_present (f e) (m * w) l (r / w) fit_below) absent legal.1,
        put_each (LegalUnder (m * w)) e sub f
            (booked_legal (f e) (m * w) l (r / w) number range (not-eq-not.0 (absent e)) fit_below (legal.2 e))
            (λ k other. legal.2 k),
      )

-- a root that was booked into is a node again
pub booked_root_legal : (L p i w : ℕ) (f : ℕ → Tree) (l r : ℕ) → LegalUnder 1 (book_by_digits L p i 1 l r (node w f)) → Legal (book_by_digits L p i 1 l r (node w f))
unfolding book_by_digits booking Legal
booked_root_legal L p i w f zero r h = inl h
booked_root_legal L p i w f (suc l) r h = inl h
