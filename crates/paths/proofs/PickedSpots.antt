-- What the search over paths picks (`best_of_lines`, specs/Rules.antt): of what the levels of the paths offer, the smallest start.
-- Assumes nothing.
use Prim.Native.Nat.{ℕ, zero, suc}
use native.Mathlib.Omega.{arith}
use native.Mathlib.Nat.{le_refl}
use mathlib.Core.Path.{◌≡◌, refl}
use mathlib.Core.Logic.{◌⊎◌, inl, inr, ⊎_elim}
use Rattle.std.specs.Prelude.{Option, None, Some}
use Rattle.std.proofs.lemmas.Option.{none-some}
use lib.ListN.{length}
use borrow.Author.Tests.{le-ltb}
use Rattle.tree.specs.Search.{smaller_by}
use Rattle.tree.proofs.Picking.{PicksBy, Either, picks_same, picks_smaller, Below, below_or_last, below_suc}
use Rattle.paths.specs.Rules.{Family, Spot, spot_start, spot_at, best_on_path, best_of_lines}

picks_offered : (o : Option Spot) → PicksBy spot_start (λ s. o ≡ Some s) o
picks_offered None = λ s h. none-some s h
picks_offered (Some s) = (refl, λ q h. let same : q ≡ s = cc in rw same (le_refl (spot_start s)))

-- whatever has the property is no better than what was picked
pub picks_no_better : (C : Spot → Type 0) (o q : Option Spot) → PicksBy spot_start C o → ((s : Spot) → q ≡ Some s → C s) → smaller_by spot_start o q ≡ o
unfolding smaller_by
picks_no_better C None None picked has = refl
picks_no_better C None (Some s) picked has = absurd (picked s (has s refl))
picks_no_better C (Some b) None picked has = refl
picks_no_better C (Some b) (Some s) picked has = rw (le-ltb (spot_start s) (spot_start b) (picked.1 s (has s refl)))

level_added : (C : Type 0) (E : ℕ → Type 0) (n : ℕ) → (C ⊎ Below n E) ⊎ E n → C ⊎ Below (suc n) E
level_added C E n (inl (inl h)) = inl h
level_added C E n (inl (inr h)) = inr (below_or_last n E (inl h))
level_added C E n (inr h) = inr (below_or_last n E (inr h))

last_level_apart : (C : Type 0) (E : ℕ → Type 0) (n : ℕ) → C ⊎ Below (suc n) E → (C ⊎ Below n E) ⊎ E n
last_level_apart C E n (inl h) = inl (inl h)
last_level_apart C E n (inr h) = ⊎_elim (λ k. inl (inr k)) (λ k. inr k) (below_suc n E h)

module _ (family : Family) (p : ℕ) where
  -- the spot of a level below n of line M's path
  abbrev pub OnPath : ℕ → ℕ → Spot → Type 0
  OnPath M n s = Below n (λ l. spot_at family p M l ≡ Some s)

  -- the spot of a level of the path of a line below n
  abbrev pub OnLines : ℕ → Spot → Type 0
  OnLines n s = Below n (λ M. OnPath M (length (family M)) s)

  module _ (C : Spot → Type 0) (so_far : Option Spot) (picked : PicksBy spot_start C so_far) (M : ℕ) where
    pub picks_on_path : (n : ℕ) → PicksBy spot_start (Either C (OnPath M n)) (best_on_path family p so_far M n)
    unfolding best_on_path
    picks_on_path zero = picks_same spot_start C _ (λ s h. inl h) (λ s. ⊎_elim (λ h. h) (λ h. absurd (omega arith))) so_far picked
    picks_on_path (suc n) =
        let offer = spot_at family p M n in
        picks_same spot_start _ _ (λ s. level_added (C s) _ n) (λ s. last_level_apart (C s) _ n) (best_on_path family p so_far M (suc n))
        (picks_smaller spot_start _ _ (best_on_path family p so_far M n) offer (picks_on_path n) (picks_offered offer))

  pub picks_of_lines : (n : ℕ) → PicksBy spot_start (OnLines n) (best_of_lines family p n)
  unfolding best_of_lines
  picks_of_lines zero = λ s h. omega arith
  picks_of_lines (suc n) =
      picks_same spot_start _ _ (λ s. below_or_last n _) (λ s. below_suc n _) (best_of_lines family p (suc n))
      (picks_on_path (OnLines n) (best_of_lines family p n) (picks_of_lines n) n (length (family n)))
