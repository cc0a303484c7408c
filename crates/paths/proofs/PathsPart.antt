-- Laws of `parts`, and the invariant of its loop: two paths part exactly where what is left of them does.
-- Assumes nothing.
use Prim.Native.Nat.{ℕ, ◌+◌, ◌<◌, ◌≤◌, zero-le}
use native.Mathlib.Omega.{arith}
use mathlib.Core.Path.{◌≡◌, refl, sym, ◌∙◌}
use mathlib.Core.Logic.{◌⊎◌, inl, inr}
use mathlib.Core.Bool.{true, false, and-eq-true_iff}
use mathlib.Core.List.{List, [], ◌∷◌}
use lib.Dec.{eqb}
use borrow.Author.Tests.{eqb-true, eq-eqb, ne_eqb}
use Rattle.tree.specs.declared.Row.{Row}
use Rattle.tree.specs.Record.{row_at, path_at, parts}
use Rattle.paths.proofs.PathRest.{zero_or_not, path_rest, path_rest_start, path_rest_row, path_rest_end, path_rest_none}

pub record Alike (rows : List ℕ) (a b k : ℕ) : Type 0 where
  pub within : k ≤ 11
  pub same : parts (path_at rows a) (path_at rows b) ≡ parts (path_rest rows a k) (path_rest rows b k)

-- no path parts from one without rows
pub parts_none : (ps : List Row) → parts ps [] ≡ false
unfolding parts
parts_none [] = refl
parts_none (p ∷ ps) = refl

-- two paths that part have one weight, and part below where they take the same edge
pub parts_row : (p : Row) (ps : List Row) (q : Row) (qs : List Row) → parts (p ∷ ps) (q ∷ qs) ≡ true → (p.weight ≡ q.weight) × (p.edge ≡ q.edge → parts ps qs ≡ true)
unfolding parts
parts_row p ps q qs h =
    let both = (and-eq-true_iff (eqb p.weight q.weight) _).0 h in
    (eqb-true _ _ both.0, λ same. rw (eq-eqb p.edge q.edge same) at both.1)

pub alike_start : (rows : List ℕ) (a b : ℕ) → Alike rows a b 0
alike_start rows a b = record { within = zero-le; same = rw (path_rest_start rows a, path_rest_start rows b) }

module _ {rows : List ℕ} {a b k : ℕ} (alike : Alike rows a b k) where
  pub both_ended : 11 ≤ k → parts (path_at rows a) (path_at rows b) ≡ false
  unfolding parts
  both_ended past = alike.same ∙ rw (path_rest_none rows a k past)

  -- w was read as the first path's weight
  module _ (below : k < 11) {w : ℕ} (read : w ≡ (row_at rows a k).weight) where
    pub first_ended : w ≡ 0 → parts (path_at rows a) (path_at rows b) ≡ false
    unfolding parts
    first_ended zero_weight = alike.same ∙ rw (path_rest_end rows a k below read zero_weight)

    -- and v as the second one's
    module _ (some_weight : w ≡ 0 → ⊥) {v : ℕ} (read_second : v ≡ (row_at rows b k).weight) where
      -- the second path has ended, or goes through another node
      pub other_node : (v ≡ w → ⊥) → parts (path_at rows a) (path_at rows b) ≡ false
      unfolding parts
      other_node differ = alike.same ∙ go (zero_or_not v)
        where
          go : (v ≡ 0) ⊎ (v ≡ 0 → ⊥) → parts (path_rest rows a k) (path_rest rows b k) ≡ false
          go (inl z) = rw (path_rest_end rows b k below read_second z) (parts_none (path_rest rows a k))
          go (inr n) = rw (path_rest_row rows a k below read some_weight, path_rest_row rows b k below read_second n, ne_eqb _ _ (λ e. differ (read_second ∙ sym e ∙ sym read)))

      module _ (one_node : v ≡ w) {e d : ℕ} (read_edge : e ≡ (row_at rows a k).edge) (read_other : d ≡ (row_at rows b k).edge) where
        second_weight : v ≡ 0 → ⊥
        second_weight z = some_weight (sym one_node ∙ z)

        one_weight : (row_at rows a k).weight ≡ (row_at rows b k).weight
        one_weight = sym read ∙ sym one_node ∙ read_second

        pub other_edge : (e ≡ d → ⊥) → parts (path_at rows a) (path_at rows b) ≡ true
        unfolding parts
        other_edge differ = alike.same ∙ rw (path_rest_row rows a k below read some_weight, path_rest_row rows b k below read_second second_weight, eq-eqb _ _ one_weight, ne_eqb _ _ (λ s. differ (read_edge ∙ s ∙ sym read_other)))

        pub same_edge : e ≡ d → Alike rows a b (k + 1)
        unfolding parts
        same_edge one_edge = record {
          within = omega arith;
          same = alike.same ∙ rw (path_rest_row rows a k below read some_weight, path_rest_row rows b k below read_second second_weight, eq-eqb _ _ one_weight, eq-eqb _ _ (sym read_edge ∙ one_edge ∙ read_other));
        }
