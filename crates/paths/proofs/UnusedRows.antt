-- The invariants of two loops over unused rows. That of `rest_unused`, from a path's end on: each row passed is in the path, or 0 and 0.
-- Assumes nothing.
use Prim.Native.Nat.{ℕ, ◌+◌, ◌*◌, ◌<◌, ◌≤◌}
use native.Mathlib.Omega.{arith}
use native.Mathlib.Nat.{eq-zero-or-pos}
use mathlib.Core.Path.{◌≡◌, refl, sym, ◌∙◌}
use mathlib.Core.Logic.{inl, inr}
use mathlib.Core.Bool.{Bool, true, false, ◌||◌, and-false}
use mathlib.Core.List.{List}
use lib.Dec.{eqb, ltb}
use lib.ListN.{length}
use borrow.Author.Tests.{lt-ltb, le-ltb, eq-eqb, ne_eqb}
use Rattle.tree.specs.declared.Row.{Row}
use Rattle.tree.specs.Record.{row_at, path_at, unused, rest_unused}
use Rattle.paths.proofs.AllBelow.{so_far_more, Tested, tested_fault, tested_all}
use Rattle.paths.proofs.PathRest.{path_length_at_most_11}

-- a row is not used exactly where the sum of its numbers is 0

sum_unused : (r : Row) → r.weight + r.edge ≡ 0 → unused r ≡ true
unfolding unused
sum_unused r h = rw (eq-eqb r.weight 0 (omega arith), eq-eqb r.edge 0 (omega arith))

sum_used : (r : Row) → (r.weight + r.edge ≡ 0 → ⊥) → unused r ≡ false
unfolding unused
sum_used r h = elim (eq-zero-or-pos r.weight) [
  | inl z ↦ rw (ne_eqb r.edge 0 (λ e. h (omega arith)), and-false)
  | inr pos ↦ let used : r.weight ≡ 0 → ⊥ = λ e. omega arith in rw (ne_eqb r.weight 0 used)
]

-- row k is in line L's path, or is not used
abbrev pub row_right : List ℕ → ℕ → ℕ → Bool
row_right rows L k = ltb k (length (path_at rows L)) || unused (row_at rows L k)

pub record Unused (rows : List ℕ) (L k : ℕ) : Type 0 where
  pub past_path : length (path_at rows L) ≤ k
  pub tested : Tested 11 (row_right rows L) k

-- the loop starts at the path's end
pub unused_start : (rows : List ℕ) (L : ℕ) {k : ℕ} → k ≡ length (path_at rows L) → Unused rows L k
unused_start rows L {k} e = record {
  past_path = omega arith;
  tested = record {
    within = omega (arith, path_length_at_most_11 rows L);
    gave = λ i below. let h : i < length (path_at rows L) = omega arith in rw (lt-ltb _ _ h);
  };
}

module _ {rows : List ℕ} {L k : ℕ} (unused_to : Unused rows L k) where
  pub unused_all : 11 ≤ k → rest_unused rows L ≡ true
  unfolding rest_unused
  unused_all past = tested_all unused_to.tested past

  -- s was read as the sum of row k
  module _ (below : k < 11) {s : ℕ} (read : s ≡ (row_at rows L k).weight + (row_at rows L k).edge) where
    not_in_path : ltb k (length (path_at rows L)) ≡ false
    not_in_path = le-ltb _ _ unused_to.past_path

    pub row_used : (s ≡ 0 → ⊥) → rest_unused rows L ≡ false
    unfolding rest_unused
    row_used h = tested_fault unused_to.tested below (rw (not_in_path, sum_used (row_at rows L k) (λ z. h (read ∙ z))))

    pub unused_more : s ≡ 0 → Unused rows L (k + 1)
    unused_more h = record {
      past_path = omega (arith, unused_to.past_path);
      tested = so_far_more unused_to.tested below (rw (not_in_path, sum_unused (row_at rows L k) (sym read ∙ h)));
    }

-- The invariant of `closed_unused`'s loop: the sum of the rows passed is 0, and then all of them are 0 and 0, or one of them is used.
pub record Summed (rows : List ℕ) (L sum k : ℕ) : Type 0 where
  pub within : k ≤ 11
  pub bounded : sum ≤ 131070 * k
  pub unused_if_zero : sum ≡ 0 → Unused rows L k
  pub used_if_not : (sum ≡ 0 → ⊥) → rest_unused rows L ≡ false

pub summed_none : (rows : List ℕ) (L : ℕ) → length (path_at rows L) ≡ 0 → Summed rows L 0 0
summed_none rows L closed = record {
  within = omega arith;
  bounded = omega arith;
  unused_if_zero = λ z. unused_start rows L (sym closed);
  used_if_not = λ h. absurd (h refl);
}

module _ {rows : List ℕ} {L sum k : ℕ} (summed : Summed rows L sum k) where
  pub summed_more : k < 11 → {s : ℕ} → s ≡ (row_at rows L k).weight + (row_at rows L k).edge → s ≤ 131070 → Summed rows L (sum + s) (k + 1)
  summed_more below {s} read small = record {
    within = omega arith;
    bounded = omega (arith, summed.bounded);
    unused_if_zero = λ z. unused_more (summed.unused_if_zero (omega arith)) below read (omega arith);
    used_if_not = λ h. elim (eq-zero-or-pos sum) [
      | inl z ↦ row_used (summed.unused_if_zero z) below read (λ e. h (omega arith))
      | inr pos ↦ summed.used_if_not (λ e. omega arith)
    ];
  }

  pub summed_all : 11 ≤ k → rest_unused rows L ≡ eqb sum 0
  summed_all past = elim (eq-zero-or-pos sum) [
    | inl z ↦ unused_all (summed.unused_if_zero z) past ∙ sym (eq-eqb sum 0 z)
    | inr pos ↦ let h : sum ≡ 0 → ⊥ = λ e. omega arith in summed.used_if_not h ∙ sym (ne_eqb sum 0 h)
  ]
