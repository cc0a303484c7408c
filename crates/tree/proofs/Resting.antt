-- How long the recorder rests (specs/Asking.antt): what `rest` finds is the rest, in every legal tree.
-- Assumes nothing.
use Prim.Native.Nat.{ℕ, zero, suc, ◌+◌, ◌-◌, ◌%◌, ◌<◌, ◌≤◌}
use native.Mathlib.Omega.{arith}
use native.Mathlib.Nat.{mod-lt, mod-eq_of_lt, mod-add-mod, add-mod-mod, add-mod_right, add-zero}
use native.Mathlib.Decide.{dec_lt}
use mathlib.Core.Path.{◌≡◌, refl, sym, ◌∙◌, ap}
use mathlib.Core.Logic.{◌↔◌}
use mathlib.Core.Bool.{Bool, true, false, true≢false, false≢true}
use Rattle.std.specs.Prelude.{Option, None, Some, unwrap_or}
use Rattle.tree.specs.Search.{found, smallest}
use Rattle.tree.specs.Tree.{Tree, nothing, present}
use Rattle.tree.specs.Shape.{Legal}
use Rattle.tree.specs.Asking.{owner, owned, rest, IsRest, owned_by, idle_for, or_rest, owner_or_rest}
use Rattle.tree.proofs.Searching.{Smallest, smallest_some, smallest_none}
use Rattle.tree.proofs.Proper.{legal_proper}
use Rattle.tree.proofs.Standing.{start_below_period}
use Rattle.tree.proofs.Numbering.{stands_period}
use Rattle.tree.proofs.Ownership.{stands_walk}
use Rattle.tree.proofs.Clearing.{proper_present_line}

-- The next turn of a line

-- after so many rounds comes one that leaves u modulo q
pub next_fits : (q u n : ℕ) → u < q → (n + (u + q - n % q) % q) % q ≡ u
next_fits q u n below =
    let positive : 0 < q = omega arith in
    let remainder_below = mod-lt n positive in
    let sum : n % q + (u + q - n % q) ≡ u + q = omega arith in
    sym (mod-add-mod n q ((u + q - n % q) % q)) ∙ add-mod-mod (n % q) (u + q - n % q) q ∙ ap (λ (k : ℕ). k % q) sum ∙ add-mod_right u q ∙ mod-eq_of_lt below

-- Two rests of a round are the same

not_less : (n : ℕ) (t : Tree) (g h : ℕ) → present t ≡ true → IsRest n t g → IsRest n t h → h ≤ g
not_less n t g h here a b =
    elim (dec_lt g h) [ yes less ↦ absurd (false≢true (sym (b.none_before g less) ∙ a.next_owned here)) | no more ↦ omega arith ]

pub one_rest : (n : ℕ) (t : Tree) (g h : ℕ) → IsRest n t g → IsRest n t h → g ≡ h
one_rest n t g h a b = by_test (present t) refl
  where
    by_test : (here : Bool) → present t ≡ here → g ≡ h
    by_test true here = omega (arith, not_less n t g h here a b, not_less n t h g here b a)
    by_test false empty = a.empty_plan empty ∙ sym (b.empty_plan empty)

-- The rest that is searched for

module _ (t : Tree) (is_legal : Legal t) (n : ℕ) where
  -- a plan that is not empty has an owned round before the longest period is over
  owned_within : present t ≡ true → (g : ℕ) × (g < 4095) × (owned (n + g) t ≡ true)
  unfolding owned found
  owned_within here =
      let x = proper_present_line t (legal_proper t is_legal) here in
      let start_below = start_below_period x.0 t x.1 x.2 x.3 in
      let next = stands_walk x.0 _ t x.1 x.2 x.3 (next_fits x.1 x.2 n start_below) in
      let positive : 0 < x.1 = omega arith in
      let below = mod-lt (x.2 + x.1 - n % x.1) positive in
      ((x.2 + x.1 - n % x.1) % x.1, omega (arith, stands_period x.0 t x.1 x.2 is_legal x.3), ap found next)

  -- so the search finds the first of them
  found_rest : present t ≡ true → Smallest 4095 (λ g. owned (n + g) t) (rest n t)
  unfolding rest
  found_rest here = rw here (by_search (smallest 4095 (λ g. owned (n + g) t)) refl)
    where
      by_search : (o : Option ℕ) → smallest 4095 (λ g. owned (n + g) t) ≡ o → Smallest 4095 (λ g. owned (n + g) t) (unwrap_or o 0)
      by_search (Some g) e = smallest_some 4095 _ g e
      by_search None e = let x = owned_within here in absurd (true≢false (sym x.2 ∙ smallest_none 4095 _ e x.0 x.1))

  rest_empty : present t ≡ false → rest n t ≡ 0
  unfolding rest
  rest_empty empty = rw empty

  -- (Ask 4, 2, 3) What `rest` gives is the rest.
  pub rest_is_rest : IsRest n t (rest n t)
  rest_is_rest = by_test (present t) refl
    where
      by_test : (b : Bool) → present t ≡ b → IsRest n t (rest n t)
      by_test true here =
          let least = found_rest here in
          record {
            empty_plan = λ empty. absurd (true≢false (sym here ∙ empty));
            next_owned = λ here. least.passes;
            none_before = least.none_smaller;
          }
      by_test false empty =
          let zero_rest = rest_empty empty in
          record {
            empty_plan = λ empty. zero_rest;
            next_owned = λ here. absurd (false≢true (sym empty ∙ here));
            none_before = λ k less. absurd (omega arith);
          }

  -- at most 4,094
  pub rest_at_most : rest n t ≤ 4094
  rest_at_most = by_test (present t) refl
    where
      by_test : (b : Bool) → present t ≡ b → rest n t ≤ 4094
      by_test true here = omega (arith, (found_rest here).in_range)
      by_test false empty = omega (arith, rest_empty empty)

  -- of an idle round at least 1, where there is a line
  pub rest_at_least : owner n t ≡ None → present t ≡ true → 1 ≤ rest n t
  unfolding owned found
  rest_at_least idle here = by_rest (rest n t) (found_rest here).passes
    where
      by_rest : (g : ℕ) → owned (n + g) t ≡ true → 1 ≤ g
      by_rest zero now = absurd (false≢true (sym (ap found idle) ∙ ap (λ (k : ℕ). found (owner k t)) (sym (add-zero n)) ∙ now))
      by_rest (suc g) later = omega arith

  -- (Ask 4, 3) of an idle round 0 in the empty plan only
  pub rest_0_exactly : owner n t ≡ None → (rest n t ≡ 0) ↔ (present t ≡ false)
  rest_0_exactly idle = (by_test (present t) refl, rest_empty)
    where
      by_test : (b : Bool) → present t ≡ b → rest n t ≡ 0 → b ≡ false
      by_test true here zero_rest = absurd (omega (arith, rest_at_least idle here))
      by_test false empty zero_rest = refl

-- What owner answers

module _ (n : ℕ) (t : Tree) where
  -- a line is answered exactly when it is the owner
  pub owned_exactly : (L : ℕ) → (owner_or_rest n t ≡ owned_by L) ↔ (owner n t ≡ Some L)
  unfolding owner_or_rest or_rest
  owned_exactly L = (by_owner (owner n t), λ line_found. rw line_found)
    where
      by_owner : (o : Option ℕ) → or_rest o (rest n t) ≡ owned_by L → o ≡ Some L
      by_owner None told = let z : ◌≡◌ {A = ℕ} 0 1 = cc in absurd (omega arith)
      by_owner (Some M) told = cc

  -- and a rest exactly when there is no owner and it is the rest
  pub idle_exactly : (g : ℕ) → (owner_or_rest n t ≡ idle_for g) ↔ ((owner n t ≡ None) × (rest n t ≡ g))
  unfolding owner_or_rest or_rest
  idle_exactly g = (by_owner (owner n t), λ idle. rw (idle.0, idle.1))
    where
      by_owner : (o : Option ℕ) → or_rest o (rest n t) ≡ idle_for g → (o ≡ None) × (rest n t ≡ g)
      by_owner None told = (refl, cc)
      by_owner (Some M) told = let z : ◌≡◌ {A = ℕ} 0 1 = cc in absurd (omega arith)

  -- in the empty plan every round is idle, with rest 0
  pub idle_in_empty : t ≡ nothing → owner_or_rest n t ≡ idle_for 0
  unfolding owner_or_rest or_rest owner rest present
  idle_in_empty empty = rw empty
