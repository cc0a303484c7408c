-- The facts about an `Option` that the library does not state.
-- Assumes nothing.
use mathlib.Core.Path.{◌≡◌, refl, sym}
use Rattle.std.specs.Prelude.{Option, None, Some, option_map}
use Rattle.tree.specs.Search.{found}
use Rattle.std.proofs.lemmas.Option.{none-some, same_Some}

pub some-none : {A : Type 0} (x : A) → Some x ≡ None → ⊥
some-none x e = none-some x (sym e)

-- what a mapped value was before
pub mapped_some : {A B : Type 0} (f : A → B) (o : Option A) (y : B) → option_map f o ≡ Some y → (x : A) × (o ≡ Some x) × (f x ≡ y)
mapped_some f None y e = absurd (none-some y e)
mapped_some f (Some x) y e = (x, refl, same_Some (f x) y e)

pub mapped_none : {A B : Type 0} (f : A → B) (o : Option A) → option_map f o ≡ None → o ≡ None
mapped_none f None e = refl
mapped_none f (Some x) e = absurd (some-none (f x) e)

pub mapped_found : {A B : Type 0} (f : A → B) (o : Option A) → found (option_map f o) ≡ found o
unfolding found
mapped_found f None = refl
mapped_found f (Some x) = refl

-- two of which each has what the other has are the same
pub same_option : {A : Type 0} (o p : Option A) → ((a : A) → o ≡ Some a → p ≡ Some a) → ((a : A) → p ≡ Some a → o ≡ Some a) → o ≡ p
same_option None None there back = refl
same_option None (Some a) there back = back a refl
same_option (Some a) p there back = sym (there a refl)
