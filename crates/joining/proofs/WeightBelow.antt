-- The one weight below a node (`weight_below_on_paths` of crate paths), from the numbers read in the record, one line after the other.
-- Assumes nothing.
use Rattle.std.specs.Prelude.{Option, None, Some}
use Prim.Native.Nat.{ℕ, suc, ◌+◌, ◌<◌, ◌≤◌, zero-le}
use native.Mathlib.Omega.{arith}
use native.Mathlib.Nat.{lt_of_lt_of_le}
use native.Mathlib.Decide.{dec_lt}
use mathlib.Core.Path.{◌≡◌, refl, sym, ◌∙◌, ap}
use mathlib.Core.Bool.{Bool, true, false, true≢false}
use mathlib.Core.List.{List}
use borrow.Author.Count.{below_more}
use Rattle.tree.specs.declared.Row.{Row}
use Rattle.tree.specs.Record.{row_at, path_at}
use Rattle.paths.specs.Rules.{Family, row_of, weight_below_on_paths}
use Rattle.paths.proofs.JoiningPaths.{OneWeightOnPaths, weight_on_paths_some, one_weight_on_paths}
use Rattle.paths.proofs.RowLaws.{line_row}
use Rattle.joining.specs.Common.{through}
use Rattle.joining.specs.Joinable.{RestUnused}

-- where no weight is that of all lines taken, there is none
pub no_one_weight : (family : Family) (taken : ℕ → Bool) (l : ℕ) → ((v : ℕ) → OneWeightOnPaths family taken l v → ⊥) → weight_below_on_paths family taken l ≡ None
no_one_weight family taken l none = go (weight_below_on_paths family taken l) refl
  where
    go : (o : Option ℕ) → weight_below_on_paths family taken l ≡ o → weight_below_on_paths family taken l ≡ None
    go None e = e
    go (Some v) e = absurd (none v (weight_on_paths_some family taken l v e))

-- The lines below n were read: v is the one weight below the node of those through it, or 0 where no line goes through it.
pub record WeightSoFar (rows common : List ℕ) (l v n : ℕ) : Type 0 where
  pub within : n ≤ 64
  pub no_line : v ≡ 0 → (M : ℕ) → M < n → through common l M ≡ false
  pub some_line : 0 < v → (M : ℕ) × (M < n) × (through common l M ≡ true)
  pub all : (M : ℕ) → M < n → through common l M ≡ true → (row_at rows M (suc l)).weight ≡ v

pub weight_of_none : (rows common : List ℕ) (l : ℕ) → WeightSoFar rows common l 0 0
weight_of_none rows common l = record {
  within = zero-le;
  no_line = λ zero_weight M below. absurd (omega arith);
  some_line = λ positive. absurd (omega arith);
  all = λ M below goes. absurd (omega arith);
}

module _ {rows common : List ℕ} {l v n : ℕ} (so_far : WeightSoFar rows common l v n) where
  -- line n goes by another way
  pub other_way : n < 64 → through common l n ≡ false → WeightSoFar rows common l v (n + 1)
  other_way below other = record {
    within = omega arith;
    no_line = λ zero_weight. below_more (λ (M : ℕ). through common l M ≡ false) n (so_far.no_line zero_weight) other;
    some_line = λ positive. let x = so_far.some_line positive in (x.0, omega (arith, x.1), x.2);
    all = below_more (λ (M : ℕ). through common l M ≡ true → (row_at rows M (suc l)).weight ≡ v) n so_far.all (λ goes. absurd (true≢false (sym goes ∙ other)));
  }

  -- or it goes through the node, and has the same weight below, or is the first
  pub same_weight : n < 64 → through common l n ≡ true → {w : ℕ} → w ≡ (row_at rows n (suc l)).weight → (0 < w) × (0 < v → w ≡ v) → WeightSoFar rows common l w (n + 1)
  same_weight below goes {w} read same = record {
    within = omega arith;
    no_line = λ zero_weight. absurd (omega (arith, same.0));
    some_line = λ positive. (n, omega arith, goes);
    all = below_more (λ (M : ℕ). through common l M ≡ true → (row_at rows M (suc l)).weight ≡ w) n earlier (λ on. sym read);
  }
    where
      earlier : (M : ℕ) → M < n → through common l M ≡ true → (row_at rows M (suc l)).weight ≡ w
      earlier M before on = so_far.all M before on ∙ go (dec_lt 0 v)
        where
          go : Dec (0 < v) → v ≡ w
          go (yes positive) = sym (same.1 positive)
          go (no none) = absurd (true≢false (sym on ∙ so_far.no_line (omega arith) M before))

  module _ (level_below : l < 10) (rest : RestUnused rows (through common l)) where
    -- the weights in the record are those on the paths
    row_below : (M : ℕ) → M < 64 → through common l M ≡ true → (row_of (suc l) (path_at rows M)).weight ≡ (row_at rows M (suc l)).weight
    row_below M below goes = ap (λ (r : Row). r.weight) (sym (line_row rows M (rest M below goes) (suc l) (omega arith)))

    -- a line stands below, or two weights differ
    pub another_weight : n < 64 → through common l n ≡ true → {w : ℕ} → w ≡ (row_at rows n (suc l)).weight → (0 < w → (0 < v) × (w ≡ v → ⊥)) →
        weight_below_on_paths (path_at rows) (through common l) l ≡ None
    another_weight below goes {w} read another = no_one_weight (path_at rows) (through common l) l (λ u one.
        let here : w ≡ u = read ∙ sym (row_below n below goes) ∙ one.all n below goes in
        let other = another (omega (arith, one.positive)) in
        let x = so_far.some_line other.0 in
        let within : x.0 < 64 = omega (arith, x.1) in
        let there : v ≡ u = sym (so_far.all x.0 x.1 x.2) ∙ sym (row_below x.0 within x.2) ∙ one.all x.0 within x.2 in
        other.1 (here ∙ sym there))

    -- all lines were read
    module _ (past : 64 ≤ n) where
      pub no_line_through : v ≡ 0 → weight_below_on_paths (path_at rows) (through common l) l ≡ None
      no_line_through zero_weight = no_one_weight (path_at rows) (through common l) l (λ u one. true≢false (sym one.line_taken ∙ so_far.no_line zero_weight one.line (lt_of_lt_of_le one.line_below past)))

      pub one_weight : (v ≡ 0 → ⊥) → weight_below_on_paths (path_at rows) (through common l) l ≡ Some v
      one_weight some_weight =
          let x = so_far.some_line (omega arith) in
          one_weight_on_paths (path_at rows) (through common l) l v record {
            line = x.0;
            line_below = omega (arith, x.1, so_far.within);
            line_taken = x.2;
            positive = omega arith;
            all = λ M below goes. row_below M below goes ∙ so_far.all M (lt_of_lt_of_le below past) goes;
          }
