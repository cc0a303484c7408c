-- Laws of the searches and lists below a bound (specs/Search.antt).
-- Assumes nothing.
use Rattle.std.specs.Prelude.{if◌then◌else◌, Option, None, Some}
use Prim.Native.Nat.{ℕ, zero, suc, ◌+◌, ◌<◌}
use native.Mathlib.Omega.{arith}
use native.Mathlib.Nat.{eq-or-lt_of_le, le_of_suc-le-suc}
use native.Mathlib.Numerals.{add-one}
use mathlib.Core.Path.{◌≡◌, refl, sym, ◌∙◌, ap, ap₂}
use mathlib.Core.Logic.{◌⊎◌, inl, inr}
use mathlib.Core.Bool.{Bool, true, false, not, true≢false, false≢true}
use mathlib.Core.List.{[], ◌∷◌}
use Rattle.tree.proofs.Options.{some-none}
use Rattle.std.proofs.lemmas.Option.{none-some}
use lib.ListN.{length, get_or, length-append, get_or-append}
use lib.Seq.{get_or_at}
use borrow.Author.Tests.{not-true, not-false}
use Rattle.tree.specs.Search.{found, or_else, passing, first, each_below, smallest, some_below, all_below}

-- what is below suc n is n or below n
pub last_or_below : (i n : ℕ) → i < suc n → (i ≡ n) ⊎ (i < n)
last_or_below i n h = eq-or-lt_of_le (le_of_suc-le-suc h)

-- the number below n whose offer is the first one
pub record FirstAt {A : Type 0} (n : ℕ) (offer : ℕ → Option A) (a : A) : Type 0 where
  pub index : ℕ
  pub index_below : index < n
  pub offers : offer index ≡ Some a
  pub none_earlier : (j : ℕ) → j < index → offer j ≡ None

module _ {A : Type 0} where
  pub found_some : (o : Option A) → found o ≡ true → (a : A) × (o ≡ Some a)
  unfolding found
  found_some None h = absurd (false≢true h)
  found_some (Some a) h = (a, refl)

  pub found_none : (o : Option A) → found o ≡ false → o ≡ None
  unfolding found
  found_none None h = refl
  found_none (Some a) h = absurd (true≢false h)

  or_else_none : (a b : Option A) → or_else a b ≡ None → (a ≡ None) × (b ≡ None)
  unfolding or_else
  or_else_none None b h = (refl, h)
  or_else_none (Some x) b h = absurd (some-none x h)

  or_else_some : (a b : Option A) (x : A) → or_else a b ≡ Some x → (a ≡ Some x) ⊎ ((a ≡ None) × (b ≡ Some x))
  unfolding or_else
  or_else_some None b x h = inr (refl, h)
  or_else_some (Some y) b x h = inl h

  pub first_none : (n : ℕ) (offer : ℕ → Option A) → first n offer ≡ None → (i : ℕ) → i < n → offer i ≡ None
  unfolding first
  first_none zero offer h i below = absurd (omega arith)
  first_none (suc n) offer h i below =
      let both = or_else_none (first n offer) (offer n) h in
      elim (last_or_below i n below) [ inl e ↦ rw e both.1 | inr k ↦ first_none n offer both.0 i k ]

  first_later : (n : ℕ) (offer : ℕ → Option A) (a : A) → FirstAt n offer a → FirstAt (suc n) offer a
  first_later n offer a x =
      let b = x.index_below in
      record { index = x.index; index_below = omega arith; offers = x.offers; none_earlier = x.none_earlier }

  pub first_some : (n : ℕ) (offer : ℕ → Option A) (a : A) → first n offer ≡ Some a → FirstAt n offer a
  unfolding first
  first_some zero offer a h = absurd (none-some a h)
  first_some (suc n) offer a h =
      elim (or_else_some (first n offer) (offer n) a h) [
        | inl e ↦ first_later n offer a (first_some n offer a e)
        | inr e ↦ record { index = n; index_below = omega arith; offers = e.1; none_earlier = first_none n offer e.0 }
      ]

  -- where only the number i offers something, that is what the search finds
  pub first_only : (n : ℕ) (offer : ℕ → Option A) (i : ℕ) (a : A) → i < n → offer i ≡ Some a → ((j : ℕ) (b : A) → offer j ≡ Some b → j ≡ i) → first n offer ≡ Some a
  first_only n offer i a below here only = go (first n offer) refl
    where
      go : (o : Option A) → first n offer ≡ o → first n offer ≡ Some a
      go None e = absurd (some-none a (sym here ∙ first_none n offer e i below))
      go (Some b) e =
          let x = first_some n offer b e in
          let same = only x.index b x.offers in
          e ∙ sym x.offers ∙ ap offer same ∙ here

pub if_some : {A : Type 0} (b : Bool) (i a : A) → (if b then Some i else None) ≡ Some a → (b ≡ true) × (i ≡ a)
if_some true i a h = (refl, (cc))
if_some false i a h = absurd (none-some a h)

if_none : (b : Bool) (i : ℕ) → (if b then Some i else None) ≡ None → b ≡ false
if_none true i h = absurd (some-none i h)
if_none false i h = refl

pub passing_some : {A : Type 0} (test : A → Bool) (o : Option A) (a : A) → passing test o ≡ Some a → (o ≡ Some a) × (test a ≡ true)
unfolding passing
passing_some test None a h = absurd (none-some a h)
passing_some test (Some x) a h =
    let same = if_some (test x) x a h in
    (ap Some same.1, rw same.1 at same.0)

pub passing_true : {A : Type 0} (test : A → Bool) (a : A) → test a ≡ true → passing test (Some a) ≡ Some a
unfolding passing
passing_true test a h = rw h

-- i is the smallest number below n that passes the test
pub record Smallest (n : ℕ) (test : ℕ → Bool) (i : ℕ) : Type 0 where
  pub in_range : i < n
  pub passes : test i ≡ true
  pub none_smaller : (j : ℕ) → j < i → test j ≡ false

pub smallest_some : (n : ℕ) (test : ℕ → Bool) (i : ℕ) → smallest n test ≡ Some i → Smallest n test i
unfolding smallest
smallest_some n test i h =
    let x = first_some n _ i h in
    let same = if_some (test x.index) x.index i x.offers in
    let b = x.index_below in
    let e = same.1 in
    record {
      in_range = omega arith;
      passes = rw same.1 at same.0;
      none_smaller = λ j k. if_none (test j) j (x.none_earlier j (omega arith));
    }

pub smallest_none : (n : ℕ) (test : ℕ → Bool) → smallest n test ≡ None → (i : ℕ) → i < n → test i ≡ false
unfolding smallest
smallest_none n test h i below = if_none (test i) i (first_none n _ h i below)

-- tests that agree on every number below n have the same smallest one
pub smallest_same : (n : ℕ) (f g : ℕ → Bool) → ((i : ℕ) → i < n → f i ≡ g i) → smallest n f ≡ smallest n g
unfolding smallest first
smallest_same zero f g agree = refl
smallest_same (suc n) f g agree =
    ap₂ or_else (smallest_same n f g λ i below. agree i (omega arith)) (ap (λ (b : Bool). if b then Some n else None) (agree n (omega arith)))

pub some_below_true : (n : ℕ) (test : ℕ → Bool) → some_below n test ≡ true → (i : ℕ) × (i < n) × (test i ≡ true)
unfolding some_below
some_below_true n test h =
    let x = found_some (smallest n test) h in
    let s = smallest_some n test x.0 x.1 in
    (x.0, s.in_range, s.passes)

pub some_below_false : (n : ℕ) (test : ℕ → Bool) → some_below n test ≡ false → (i : ℕ) → i < n → test i ≡ false
unfolding some_below
some_below_false n test h = smallest_none n test (found_none (smallest n test) h)

pub some_below_at : (n : ℕ) (test : ℕ → Bool) (i : ℕ) → i < n → test i ≡ true → some_below n test ≡ true
some_below_at n test i below h = go (some_below n test) refl
  where
    go : (b : Bool) → some_below n test ≡ b → some_below n test ≡ true
    go true e = e
    go false e = let z = some_below_false n test e i below in cc

pub some_below_none : (n : ℕ) (test : ℕ → Bool) → ((i : ℕ) → i < n → test i ≡ false) → some_below n test ≡ false
some_below_none n test h = go (some_below n test) refl
  where
    go : (b : Bool) → some_below n test ≡ b → some_below n test ≡ false
    go false e = e
    go true e =
        let x = some_below_true n test e in
        let z = h x.0 x.1 in
        let y = x.2 in
        cc

pub all_below_at : (n : ℕ) (test : ℕ → Bool) → all_below n test ≡ true → (i : ℕ) → i < n → test i ≡ true
unfolding all_below
all_below_at n test h i below = not-false (test i) (some_below_false n _ (not-true _ h) i below)

pub all_below_each : (n : ℕ) (test : ℕ → Bool) → ((i : ℕ) → i < n → test i ≡ true) → all_below n test ≡ true
unfolding all_below
all_below_each n test h = ap not (some_below_none n _ (λ i below. ap not (h i below)))

-- A list of what each number has

module _ {A : Type 0} where
  pub each_below_length : (n : ℕ) (what : ℕ → A) → length (each_below n what) ≡ n
  unfolding each_below
  each_below_length zero what = refl
  each_below_length (suc n) what = length-append (each_below n what) (what n ∷ []) ∙ ap (λ (k : ℕ). k + 1) (each_below_length n what) ∙ add-one n

  pub each_below_at : (n : ℕ) (what : ℕ → A) (i : ℕ) (d : A) → i < n → get_or (each_below n what) i d ≡ what i
  unfolding each_below
  each_below_at zero what i d below = absurd (omega arith)
  each_below_at (suc n) what i d below =
      elim (last_or_below i n below) [
        | inl e ↦ rw e (get_or_at (each_below n what) (what n) [] d n (each_below_length n what))
        | inr earlier ↦ get_or-append (each_below n what) (what n ∷ []) d i (omega (arith, each_below_length n what)) ∙ each_below_at n what i d earlier
      ]
