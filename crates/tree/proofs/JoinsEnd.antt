-- A node is joined while it can be (`join_fully`, `joined_up`, specs/Closing.antt): after that it cannot be joined once more.
-- Assumes nothing.
use Rattle.std.specs.Prelude.{Option, None, Some}
use Prim.Native.Nat.{ℕ, zero, suc, ◌*◌, ◌^◌, ◌<◌, ◌≤◌}
use native.Mathlib.Omega.{arith}
use native.Mathlib.Nat.{mul_assoc, mul_comm, le-mul_of_pos_right, mul-le-mul_left, mul-le-mul_right, mul-one, pow-succ'}
use mathlib.Core.Path.{◌≡◌, refl, ◌∙◌, ap, subst}
use mathlib.Core.List.{List, ◌∷◌}
use Rattle.tree.specs.declared.Row.{Row}
use Rattle.tree.specs.Tree.{Tree, nothing, line, node}
use Rattle.tree.specs.Shape.{LegalUnder}
use Rattle.tree.specs.Closing.{weight_below, joined_with, join, join_times, join_fully, joined_up}
use Rattle.tree.proofs.Searching.{some_below_true}
use Rattle.tree.proofs.Depth.{product_fits}
use Rattle.tree.proofs.JoinedUp.{put_keeps, joined_up_keeps}
use Rattle.tree.proofs.Joining.{OneWeight, weight_below_some, joined_legal, child, child_legal, join_none, join_some}

-- A node that cannot be joined stays as it is

pub joins_no_more : (t : Tree) → join t ≡ t → (n : ℕ) → join_times n t ≡ t
unfolding join_times
joins_no_more t same zero = refl
joins_no_more t same (suc n) = ap (join_times n) same ∙ joins_no_more t same n

-- Each join at least doubles the weight, which stays below 4,096, so that after so many joins the node cannot be joined.

-- the weights of a node that can be joined and of those below it
weights_fit : (m w v : ℕ) (f : ℕ → Tree) → 0 < m → LegalUnder m (node w f) → OneWeight w v f → (2 ≤ v) × (w * v ≤ 4095)
unfolding LegalUnder joined_with
weights_fit m w v f positive legal one =
    let x = child w v f one in
    let after = joined_legal w v f one m legal in
    let e = some_below_true (w * v) _ after.1.not_empty in
    let all_weights = product_fits (m * (w * v)) _ (after.2 e.0) e.2 in
    let these : w * v ≤ m * (w * v) = subst (λ (n : ℕ). w * v ≤ n) (mul_comm (w * v) m) (le-mul_of_pos_right (w * v) positive) in
    ((child_legal w v f one m legal one.edge x.0 x.1).0, omega arith)

ends_after : (n m w : ℕ) (f : ℕ → Tree) → 0 < m → LegalUnder m (node w f) → 2048 ≤ w * 2 ^ n → join (join_times n (node w f)) ≡ join_times n (node w f)
unfolding join_times joined_with
ends_after zero m w f positive legal enough = go (weight_below w f) refl
  where
    go : (o : Option ℕ) → weight_below w f ≡ o → join (node w f) ≡ node w f
    go None e = join_none w f e
    go (Some v) e =
        let fit = weights_fit m w v f positive legal (weight_below_some w v f e) in
        absurd (omega (arith, mul-one w, mul-le-mul_left w fit.0))
ends_after (suc n) m w f positive legal enough = go (ends_after n m) (weight_below w f) refl
  where
    go : ((w : ℕ) (f : ℕ → Tree) → 0 < m → LegalUnder m (node w f) → 2048 ≤ w * 2 ^ n → join (join_times n (node w f)) ≡ join_times n (node w f)) →
        (o : Option ℕ) → weight_below w f ≡ o → join (join_times n (join (node w f))) ≡ join_times n (join (node w f))
    go later None e =
        let same = join_none w f e in
        rw (same, joins_no_more (node w f) same n) same
    go later (Some v) e =
        let one = weight_below_some w v f e in
        let fit = weights_fit m w v f positive legal one in
        let more : w * 2 * 2 ^ n ≤ w * v * 2 ^ n = mul-le-mul_right (2 ^ n) (mul-le-mul_left w fit.0) in
        let now : 2048 ≤ w * 2 * 2 ^ n = rw (pow-succ', ← mul_assoc) at enough in
        rw (join_some w v f e) (later (w * v) _ positive (joined_legal w v f one m legal) (omega arith))

-- after a node was joined while it can be, it cannot be joined once more
pub joined_to_the_end : (m : ℕ) (t : Tree) → 0 < m → LegalUnder m t → join (join_fully t) ≡ join_fully t
unfolding join_fully LegalUnder
joined_to_the_end m nothing positive legal = rw (joins_no_more nothing (unfold join in refl) 10) (unfold join in refl)
joined_to_the_end m (line n) positive legal = rw (joins_no_more (line n) (unfold join in refl) 10) (unfold join in refl)
joined_to_the_end m (node w f) positive legal =
    ends_after 10 m w f positive legal (omega (arith, legal.0))

-- so that no node on the way up can be, when it has been looked at
pub joined_up_to_the_end : (m : ℕ) (r : Row) (rs : List Row) (t : Tree) → 0 < m → LegalUnder m t → join (joined_up (r ∷ rs) t) ≡ joined_up (r ∷ rs) t
unfolding joined_up join
joined_up_to_the_end m r rs nothing positive legal = refl
joined_up_to_the_end m r rs (line n) positive legal = refl
joined_up_to_the_end m r rs (node w f) positive legal =
    joined_to_the_end m _ positive ((put_keeps w r.edge f (joined_up rs (f r.edge)) (joined_up_keeps rs (f r.edge))).legal m legal)
