-- Nodes joined on paths (specs/Rules.antt): where the lines taken have one weight at the level below, and that a joined path goes through the same nodes down to the level.
-- Assumes nothing.
use Rattle.std.specs.Prelude.{Option, None, Some}
use Prim.Native.Nat.{ℕ, zero, suc, ◌<◌, ◌≤◌}
use native.Mathlib.Omega.{arith}
use mathlib.Core.Path.{◌≡◌, refl, sym, ◌∙◌, ap}
use mathlib.Core.Bool.{Bool, true, false, not, ◌&&◌, ◌||◌, true≢false, and-eq-true_iff}
use mathlib.Core.List.{List, [], ◌∷◌}
use lib.Dec.{eqb}
use lib.ListN.{length}
use borrow.Author.Tests.{eqb-true, eqb-false, eq-eqb, ne_eqb, not-true}
use Rattle.tree.specs.declared.Row.{Row}
use Rattle.tree.specs.Search.{smallest, all_below}
use Rattle.tree.proofs.Options.{mapped_some}
use Rattle.tree.proofs.Searching.{passing_some, passing_true, smallest_some, smallest_none, all_below_at, all_below_each}
use Rattle.paths.specs.Rules.{Family, row_of, same_node, join_path, weight_below_on_paths}

-- The weight below

-- The test takes a line, and each that it takes has weight v at level l + 1.
pub record OneWeightOnPaths (family : Family) (taken : ℕ → Bool) (l v : ℕ) : Type 0 where
  pub line : ℕ
  pub line_below : line < 64
  pub line_taken : taken line ≡ true
  pub positive : 0 < v
  pub all : (M : ℕ) → M < 64 → taken M ≡ true → (row_of (suc l) (family M)).weight ≡ v

module _ (family : Family) (taken : ℕ → Bool) (l v : ℕ) where
  -- line M has that weight, where it is taken
  abbrev has_weight : ℕ → Bool
  has_weight M = not (taken M) || eqb (row_of (suc l) (family M)).weight v

  pub weight_on_paths_some : weight_below_on_paths family taken l ≡ Some v → OneWeightOnPaths family taken l v
  unfolding weight_below_on_paths
  weight_on_paths_some h =
      let passed = passing_some _ _ v h in
      let found = mapped_some _ (smallest 64 taken) v passed.0 in
      let least = smallest_some 64 taken found.0 found.1 in
      let both = (and-eq-true_iff (not (eqb v 0)) (all_below 64 has_weight)).0 passed.1 in
      let other = eqb-false v 0 (not-true (eqb v 0) both.0) in
      record {
        line = found.0;
        line_below = least.in_range;
        line_taken = least.passes;
        positive = omega arith;
        all = λ M below on. eqb-true _ v (rw on at (all_below_at 64 has_weight both.1 M below));
      }

  pub one_weight_on_paths : OneWeightOnPaths family taken l v → weight_below_on_paths family taken l ≡ Some v
  unfolding weight_below_on_paths
  one_weight_on_paths one = go (smallest 64 taken) refl
    where
      by_test : (M : ℕ) → M < 64 → (b : Bool) → taken M ≡ b → has_weight M ≡ true
      by_test M below false off = rw off
      by_test M below true on = rw on (eq-eqb _ v (one.all M below on))

      passes : (not (eqb v 0) && all_below 64 has_weight) ≡ true
      passes =
          let positive = one.positive in
          (and-eq-true_iff _ _).1 (ap not (ne_eqb v 0 (λ none. omega arith)), all_below_each 64 has_weight (λ M below. by_test M below (taken M) refl))

      go : (o : Option ℕ) → smallest 64 taken ≡ o → weight_below_on_paths family taken l ≡ Some v
      go None e = absurd (true≢false (sym one.line_taken ∙ smallest_none 64 taken e one.line one.line_below))
      go (Some N) e =
          let least = smallest_some 64 taken N e in
          rw (e, one.all N least.in_range least.passes) (passing_true _ v passes)

-- The joined path

-- where two rows are joined into one, the nodes above them stay, and one at the level
pub same_node_joined : (k l : ℕ) (ps qs : List Row) → k ≤ l → suc l < length qs → same_node k ps (join_path l qs) ≡ same_node k ps qs
unfolding same_node join_path
same_node_joined k l ps [] within long = absurd (omega arith)
same_node_joined k l [] (q ∷ qs) within long = refl
same_node_joined zero zero (p ∷ ps) (q ∷ []) within long = absurd (omega arith)
same_node_joined zero zero (p ∷ ps) (q ∷ r ∷ qs) within long = refl
same_node_joined zero (suc l) (p ∷ ps) (q ∷ qs) within long = refl
same_node_joined (suc k) zero (p ∷ ps) (q ∷ qs) within long = absurd (omega arith)
same_node_joined (suc k) (suc l) (p ∷ ps) (q ∷ qs) within long =
    ap (λ (b : Bool). eqb p.edge q.edge && b) (same_node_joined k l ps qs (omega arith) (omega arith))
