-- The rounds to which an edge leads (document 01, The tree): those that leave r + e·m when divided by m·w are those whose walk takes edge e there.
-- Assumes nothing.
use Prim.Native.Nat.{ℕ, zero, suc, ◌+◌, ◌*◌, ◌/◌, ◌%◌, ◌<◌}
use native.Mathlib.Omega.{arith}
use native.Mathlib.Nat.{mod-lt, mod-one, div-one, mul_comm, div-div-eq-div-mul}
use mathlib.Core.Path.{◌≡◌, sym, ◌∙◌, ap}
use mathlib.Core.Logic.{◌↔◌}
use mathlib.Core.Bool.{true, false≢true}
use mathlib.Core.List.{List, ◌∷◌, ◌++◌, head-eq_of_cons-eq, tail-eq_of_cons-eq}
use Rattle.tree.specs.declared.Row.{Row}
use Rattle.tree.specs.Tree.{Tree, nothing, line, node, present, row, product, Place, at_digits, at, way_by_digits, way, step}
use Rattle.tree.specs.Shape.{Legal}
use Rattle.tree.specs.Asking.{owner, walked, TakesEdge, LeadsTo}
use Rattle.tree.proofs.Digits.{digit, digits_below, digits_of}
use Rattle.tree.proofs.Proper.{Proper, legal_proper}

pub offset_below_step : (l r : ℕ) (t : Tree) → Proper t → present (at_digits l r t) ≡ true → r < product (way_by_digits l r t)
unfolding Proper at_digits way_by_digits product present
offset_below_step zero zero t proper here = omega arith
offset_below_step zero (suc r) t proper here = absurd (false≢true here)
offset_below_step (suc l) r nothing proper here = absurd (false≢true here)
offset_below_step (suc l) r (line k) proper here = absurd (false≢true here)
offset_below_step (suc l) r (node w f) proper here =
    let below = offset_below_step l (r / w) (f (r % w)) (proper.2 (r % w)) here in
    omega (arith, digits_below w _ (r % w) (r / w) (mod-lt r proper.0) below, digits_of r w)

-- The rounds of a node

-- round n goes on from the node at this level and offset with its quotient by the node's step
record GoesOn (l r n : ℕ) (t : Tree) : Type 0 where
  pub rows : walked n t ≡ way_by_digits l r t ++ walked (n / product (way_by_digits l r t)) (at_digits l r t)
  pub owner_is : owner n t ≡ owner (n / product (way_by_digits l r t)) (at_digits l r t)

-- a round that leaves a node's offset modulo its step passes that node
passes : (l r n : ℕ) (t : Tree) → Proper t → present (at_digits l r t) ≡ true → n % product (way_by_digits l r t) ≡ r → GoesOn l r n t
unfolding Proper at_digits way_by_digits product walked owner present
passes zero zero n t proper here h = record { rows = rw (div-one n); owner_is = rw (div-one n) }
passes zero (suc r) n t proper here h = absurd (false≢true here)
passes (suc l) r n nothing proper here h = absurd (false≢true here)
passes (suc l) r n (line k) proper here h = absurd (false≢true here)
passes (suc l) r n (node w f) proper here h =
    let P = product (way_by_digits l (r / w) (f (r % w))) in
    let below = offset_below_step l (r / w) (f (r % w)) (proper.2 (r % w)) here in
    let digits = (digit n w P (r % w) (r / w) (mod-lt r proper.0) below).0 (h ∙ sym (digits_of r w)) in
    let later = passes l (r / w) (n / w) (f (r % w)) (proper.2 (r % w)) here digits.1 in
    record {
      rows = rw (digits.0, ← div-div-eq-div-mul n w P) (ap (◌∷◌ (row w (r % w))) later.rows);
      owner_is = rw (digits.0, ← div-div-eq-div-mul n w P) later.owner_is;
    }

-- a walk that passes a node and takes edge e there is for a round that leaves the node's offset and selects e
passed : (l r n e : ℕ) (t : Tree) (w : ℕ) (f : ℕ → Tree) (below : List Row) → Proper t → at_digits l r t ≡ node w f →
    walked n t ≡ way_by_digits l r t ++ (row w e ∷ below) → (n % product (way_by_digits l r t) ≡ r) × (n / product (way_by_digits l r t) % w ≡ e)
unfolding Proper at_digits way_by_digits product walked present
passed zero zero n e t w f below proper is h =
    let here : row w (n % w) ∷ walked (n / w) (f (n % w)) ≡ row w e ∷ below = rw is at h in
    (mod-one n, rw (div-one n) (ap (λ (x : Row). x.edge) (head-eq_of_cons-eq here)))
passed zero (suc r) n e t w f below proper is h = absurd (false≢true (ap present is))
passed (suc l) r n e nothing w f below proper is h = absurd (false≢true (ap present is))
passed (suc l) r n e (line k) w f below proper is h = absurd (false≢true (ap present is))
passed (suc l) r n e (node v g) w f below proper is h =
    let P = product (way_by_digits l (r / v) (g (r % v))) in
    let same : n % v ≡ r % v = ap (λ (x : Row). x.edge) (head-eq_of_cons-eq h) in
    let later = passed l (r / v) (n / v) e (g (r % v)) w f below (proper.2 (r % v)) is (rw same at (tail-eq_of_cons-eq h)) in
    let high = offset_below_step l (r / v) (g (r % v)) (proper.2 (r % v)) (ap present is) in (
      (digit n v P (r % v) (r / v) (mod-lt r proper.0) high).1 (same, later.0) ∙ digits_of r v,
      rw (← div-div-eq-div-mul n v P) later.1,
    )

-- The rounds of an edge

-- the rounds that leave r + e·m modulo m·w are the node's own that select e there
pub leads_to_selected : (m w r e n : ℕ) → r < m → e < w → LeadsTo m w r e n ↔ ((n % m ≡ r) × (n / m % w ≡ e))
unfolding LeadsTo
leads_to_selected m w r e n r_below e_below =
    let two = digit n m w r e r_below e_below in
    (λ h. two.0 (h ∙ ap (◌+◌ r) (mul_comm e m)), λ h. two.1 h ∙ ap (◌+◌ r) (mul_comm m e))

-- The node of step m, weight w and offset r at a place of a tree, and its edge e: the walks that take it are those for the rounds to which it leads,
-- and they go on under it.
pub led_to_edge : (t : Tree) (a : Place) (w : ℕ) (f : ℕ → Tree) (e n : ℕ) → Legal t → at a t ≡ node w f → e < w →
    (TakesEdge a w e n t ↔ LeadsTo (step a t) w a.offset e n) × (LeadsTo (step a t) w a.offset e n → owner n t ≡ owner (n / (step a t * w)) (f e))
unfolding TakesEdge at way step walked owner present
led_to_edge t a w f e n legal is e_below = ((takes_leads, leads_takes), goes_on_under)
  where
    m : ℕ
    m = step a t

    proper : Proper t
    proper = legal_proper t legal

    selected : LeadsTo m w a.offset e n ↔ ((n % m ≡ a.offset) × (n / m % w ≡ e))
    selected = leads_to_selected m w a.offset e n (offset_below_step a.level a.offset t proper (ap present is)) e_below

    goes_on : LeadsTo m w a.offset e n → GoesOn a.level a.offset n t
    goes_on h = passes a.level a.offset n t proper (ap present is) (selected.0 h).0

    takes_leads : TakesEdge a w e n t → LeadsTo m w a.offset e n
    takes_leads h = selected.1 (passed a.level a.offset n e t w f h.0 proper is h.1)

    leads_takes : LeadsTo m w a.offset e n → TakesEdge a w e n t
    leads_takes h =
        let edge = (selected.0 h).1 in
        (_, (goes_on h).rows ∙ ap (λ (x : Tree). way a t ++ walked (n / m) x) is ∙ ap (λ (k : ℕ). way a t ++ (row w k ∷ walked (n / m / w) (f k))) edge)

    goes_on_under : LeadsTo m w a.offset e n → owner n t ≡ owner (n / (m * w)) (f e)
    goes_on_under h =
        let edge = (selected.0 h).1 in
        (goes_on h).owner_is ∙ ap (owner (n / m)) is ∙ ap (λ (k : ℕ). owner (n / m / w) (f k)) edge ∙ ap (λ (k : ℕ). owner k (f e)) (div-div-eq-div-mul n m w)
