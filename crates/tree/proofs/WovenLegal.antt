-- Weaving that is not refused (specs/Weaving.antt): what the refusals leave, and the woven tree is legal, with at most 11 nodes above a line.
-- Assumes nothing.
use Rattle.std.specs.Prelude.{None, Some}
use Prim.Native.Nat.{ℕ, ◌+◌, ◌*◌, ◌<◌, ◌≤◌}
use native.Mathlib.Omega.{arith}
use native.Mathlib.Decide.{ℕ_discrete, dec_lt}
use native.Mathlib.Nat.{mul-one, mul_assoc}
use mathlib.Core.Path.{◌≡◌, refl, sym, ◌∙◌, ap}
use mathlib.Core.Logic.{◌⊎◌, inl, inr}
use mathlib.Core.Bool.{true, false, ◌&&◌, true≢false, and-false}
use mathlib.Core.List.{List}
use lib.ListN.{length}
use lib.Dec.{ltb}
use borrow.Author.Tests.{ltb-false}
use Rattle.tree.specs.declared.Row.{Row}
use Rattle.tree.specs.Search.{found, or_else, some_below}
use Rattle.tree.specs.Tree.{Tree, nothing, line, node, present, path, is_open, period_of}
use Rattle.tree.specs.Standing.{Stands}
use Rattle.tree.specs.Opening.{put}
use Rattle.tree.specs.Shape.{Edges, LegalUnder, Legal}
use Rattle.tree.specs.Refusals.{first_refusal}
use Rattle.tree.specs.Calls.{gives}
use Rattle.tree.specs.Weaving.{side, woven, open_in_both, doubled_out_of_range, weave_refusal, weave_outcome, woven_path}
use Rattle.tree.proofs.Searching.{some_below_false, some_below_none}
use Rattle.tree.proofs.UnderEdge.{stands_under}
use Rattle.tree.proofs.Put.{put_same, put_other, put_each}
use Rattle.tree.proofs.Proper.{legal_proper, nothing_open}
use Rattle.tree.proofs.Standing.{open_stands, stands_open, stands_by_path}
use Rattle.tree.proofs.Numbering.{stands_number}
use Rattle.tree.proofs.Clearing.{prune_either}
use Rattle.tree.proofs.Checks.{none_strikes, neither, unless_given}
use Rattle.tree.proofs.Depth.{at_most_11_above}
use Rattle.tree.proofs.WovenPaths.{root_edges, side_either, alone_side, side_open, woven_path_is}

-- What the refusals leave

-- no line is open in both trees
pub woven_not_both : (a b : Tree) → weave_refusal a b ≡ None → (L : ℕ) → L < 64 → is_open L a ≡ true → is_open L b ≡ false
unfolding weave_refusal first_refusal open_in_both
woven_not_both a b h L below open_a =
    let not_both = some_below_false 64 (λ L. is_open L a && is_open L b) (none_strikes (open_in_both a b) 15 _ h).0 L below in
    rw open_a at not_both

-- the doubled periods of both trees are in range, each of them at most 4,095
pub woven_in_range : (a b : Tree) → weave_refusal a b ≡ None → (doubled_out_of_range a ≡ false) × (doubled_out_of_range b ≡ false)
unfolding weave_refusal first_refusal
woven_in_range a b h =
    neither (doubled_out_of_range a) (doubled_out_of_range b) (none_strikes _ 16 _ (none_strikes (open_in_both a b) 15 _ h).1).0

pub doubled_fits : (t : Tree) → doubled_out_of_range t ≡ false → (L : ℕ) → L < 64 → is_open L t ≡ true → 2 * period_of L t ≤ 4095
unfolding doubled_out_of_range
doubled_fits t h L below open_there =
    let in_range = some_below_false 64 (λ L. is_open L t && ltb 4095 (2 * period_of L t)) h L below in
    ltb-false 4095 (2 * period_of L t) (rw open_there at in_range)

-- A side is legal under a root of weight 2

-- what is legal under weights of one product is legal under those of any other that keeps every period in range
other_product : (k m : ℕ) (t : Tree) → LegalUnder k t → ((L p s : ℕ) → Stands L t p s → m * p ≤ 4095) → LegalUnder m t
unfolding LegalUnder Stands
other_product k m nothing legal fits = tt
other_product k m (line n) legal fits = (legal.0, rw mul-one at (fits n 1 0 (refl, refl, refl)))
other_product k m (node w f) legal fits = (
  legal.0,
  legal.1,
  λ e.
      elim (dec_lt e w) [
        | yes below ↦
            other_product (k * w) (m * w) (f e) (legal.2 e) λ L p s h. rw mul_assoc (fits L (w * p) (e + w * s) (stands_under L w f e p s below h))
        | no beyond ↦ rw (legal.1.below_weight e (omega arith)) tt
      ],
)

-- the periods on a side are doubled, and still in range
side_legal : (t : Tree) → Legal t → doubled_out_of_range t ≡ false → LegalUnder 2 (side t)
unfolding LegalUnder
side_legal t legal in_range =
    elim (side_either t legal) [
      | inl x ↦ rw x.0 (other_product 1 2 t x.1 doubled)
      | inr alone ↦ rw (alone_side t alone) (alone.number_in_range, omega arith)
    ]
  where
    doubled : (L p s : ℕ) → Stands L t p s → 2 * p ≤ 4095
    doubled L p s h =
        rw (stands_by_path L t p s (legal_proper t legal) h).0
        (doubled_fits t in_range L (omega (arith, stands_number L t p s legal h)) (stands_open L t p s h))

-- The root's edges

module _ (a b : Tree) (legal_a : Legal a) (legal_b : Legal b) (none_refuses : weave_refusal a b ≡ None) where
  -- a line under edge 0 is a line of the first tree, one under edge 1 a line of the second, and there is no other edge
  which_side : (L e : ℕ) → is_open L (root_edges a b e) ≡ true → ((e ≡ 0) × (is_open L a ≡ true)) ⊎ ((e ≡ 1) × (is_open L b ≡ true))
  which_side L e h =
      elim (ℕ_discrete e 0) [
        | yes zero ↦ inl (zero, sym (side_open a L legal_a) ∙ ap (is_open L) (sym (put_same 0 e _ _ zero)) ∙ h)
        | no other ↦ inr (second (put_other 0 e _ _ other) (ℕ_discrete e 1))
      ]
    where
      second : root_edges a b e ≡ put 1 (side b) (λ e. nothing) e → Dec (e ≡ 1) → (e ≡ 1) × (is_open L b ≡ true)
      second here (yes one) = (one, sym (side_open b L legal_b) ∙ ap (is_open L) (sym (here ∙ put_same 1 e _ _ one)) ∙ h)
      second here (no other) = absurd (nothing_open L _ (here ∙ put_other 1 e _ _ other) h)

  -- no line at all is open in both trees: those above 63 are open in neither
  pub no_line_in_both : (L : ℕ) → is_open L a ≡ true → is_open L b ≡ true → ⊥
  no_line_in_both L open_a open_b =
      let below = stands_number L a _ _ legal_a (open_stands L a open_a) in
      true≢false (sym open_b ∙ woven_not_both a b none_refuses L (omega arith) open_a)

  -- so no line is under both edges
  line_once : (L e k : ℕ) → is_open L (root_edges a b e) ≡ true → is_open L (root_edges a b k) ≡ true → e ≡ k
  line_once L e k h j = go (which_side L e h) (which_side L k j)
    where
      go : ((e ≡ 0) × (is_open L a ≡ true)) ⊎ ((e ≡ 1) × (is_open L b ≡ true)) → ((k ≡ 0) × (is_open L a ≡ true)) ⊎ ((k ≡ 1) × (is_open L b ≡ true)) → e ≡ k
      go (inl x) (inl y) = x.0 ∙ sym y.0
      go (inl x) (inr y) = absurd (no_line_in_both L x.1 y.1)
      go (inr x) (inl y) = absurd (no_line_in_both L y.1 x.1)
      go (inr x) (inr y) = x.0 ∙ sym y.0

  -- what stands under each edge is legal there
  each_legal : (e : ℕ) → LegalUnder 2 (root_edges a b e)
  unfolding LegalUnder
  each_legal =
      let in_range = woven_in_range a b none_refuses in
      put_each (LegalUnder 2) 0 (side a) _ (side_legal a legal_a in_range.0) λ e other.
      put_each (LegalUnder 2) 1 (side b) (λ k. nothing) (side_legal b legal_b in_range.1) (λ k _. tt) e

  edges_legal : some_below 2 (λ e. present (root_edges a b e)) ≡ true → Edges 2 (root_edges a b)
  edges_legal some_present =
      record {
        below_weight = λ e h. put_other 0 e (side a) _ (λ zero. omega arith) ∙ put_other 1 e (side b) (λ k. nothing) (λ one. omega arith);
        not_empty = some_present;
        line_once = line_once;
      }

-- The woven tree

pub woven_legal : (a b : Tree) → Legal a → Legal b → weave_refusal a b ≡ None → Legal (woven a b)
unfolding woven Legal LegalUnder
woven_legal a b legal_a legal_b none_refuses =
    prune_either Legal 2 (root_edges a b) (λ some_present.
    inl (omega arith, edges_legal a b legal_a legal_b none_refuses some_present, each_legal a b legal_a legal_b none_refuses)) tt

pub woven_at_most_11 : (a b : Tree) (L : ℕ) (rs : List Row) → Legal a → Legal b → weave_refusal a b ≡ None → path L (woven a b) ≡ Some rs → length rs ≤ 11
woven_at_most_11 a b L rs legal_a legal_b none_refuses h =
    at_most_11_above (woven a b) L rs (woven_legal a b legal_a legal_b none_refuses) h

-- what weaving gives is the woven tree, and then no check refuses
pub weave_gives : (a b t : Tree) → weave_outcome a b ≡ gives t → (weave_refusal a b ≡ None) × (t ≡ woven a b)
unfolding weave_outcome
weave_gives a b t given = let x = unless_given _ _ _ given in (x.0, sym x.1)

-- A line's woven path

-- with the empty plan every tree can be woven whose doubled periods are in range
nothing_refuses : (t : Tree) → doubled_out_of_range t ≡ false → weave_refusal t nothing ≡ None
unfolding weave_refusal first_refusal open_in_both doubled_out_of_range is_open path found
nothing_refuses t in_range =
    rw (
      some_below_none 64 (λ L. is_open L t && false) (λ L below. and-false _),
      in_range,
      some_below_none 64 (λ L. false) (λ L below. refl),
    ) refl

-- so its woven path has no more rows, whatever it is woven with
pub woven_path_at_most_11 : (t : Tree) (L e : ℕ) (rs : List Row) → Legal t → doubled_out_of_range t ≡ false → path L t ≡ Some rs → length (woven_path e rs) ≤ 11
unfolding woven_path Legal or_else
woven_path_at_most_11 t L e rs legal in_range there =
    woven_at_most_11 t nothing L (woven_path 0 rs) legal tt (nothing_refuses t in_range) (woven_path_is t nothing L legal tt ∙ rw there)
