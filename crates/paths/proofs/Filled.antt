-- The invariant of a loop that fills an array from the front.
-- Assumes nothing.
use Prim.Native.Nat.{ℕ, ◌+◌, ◌<◌, ◌≤◌, zero-le}
use native.Mathlib.Omega.{arith}
use mathlib.Core.Path.{◌≡◌, sym, ◌∙◌}
use mathlib.Core.List.{List}
use lib.ListN.{length, get_or, set, replicate, length-set, length-replicate}
use lib.Seq.{get_or-set_same, get_or-set_other, ext_get_or}
use borrow.Author.Count.{below_more}
use Rattle.tree.specs.Search.{each_below}
use Rattle.tree.proofs.Searching.{each_below_length, each_below_at}

-- n elements, of which each of the first k is the one wanted there
pub record Filled {A : Type 0} (d : A) (n : ℕ) (wanted : ℕ → A) (xs : List A) (k : ℕ) : Type 0 where
  pub within : k ≤ n
  pub size : length xs ≡ n
  pub are : (i : ℕ) → i < k → get_or xs i d ≡ wanted i

module _ {A : Type 0} (d : A) (n : ℕ) (wanted : ℕ → A) where
  pub filled_none : (a : A) → Filled d n wanted (replicate n a) 0
  filled_none a = record { within = zero-le; size = length-replicate n a; are = λ i below. absurd (omega arith) }

module _ {A : Type 0} {d : A} {n : ℕ} {wanted : ℕ → A} {xs : List A} {k : ℕ} (filled : Filled d n wanted xs k) where
  pub filled_more : k < n → {a : A} → a ≡ wanted k → Filled d n wanted (set xs k a) (k + 1)
  filled_more below {a} is = record {
    within = omega arith;
    size = length-set xs k a ∙ filled.size;
    are = below_more (λ (i : ℕ). get_or (set xs k a) i d ≡ wanted i) k
        (λ i earlier. get_or-set_other xs k i a d (λ same. omega arith) ∙ filled.are i earlier)
        (get_or-set_same xs k a d (omega (arith, filled.size)) ∙ is);
  }

  -- all n: the array is the list that has them
  pub filled_is : n ≤ k → (ys : List A) → length ys ≡ n → ((i : ℕ) → i < n → get_or ys i d ≡ wanted i) → xs ≡ ys
  filled_is past ys same_size ys_are =
      ext_get_or d xs ys (filled.size ∙ sym same_size) (λ i below. filled.are i (omega (arith, filled.size)) ∙ sym (ys_are i (omega (arith, filled.size))))

  pub filled_all : n ≤ k → xs ≡ each_below n wanted
  filled_all past = filled_is past (each_below n wanted) (each_below_length n wanted) (λ i below. each_below_at n wanted i d below)
