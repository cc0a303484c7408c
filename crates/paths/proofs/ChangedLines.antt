-- The record with those lines below n that a test takes set to the paths of a family (`set_lines`, specs/Rules.antt), by blocks: these lines have those
-- paths, the others are as they were.
-- Assumes nothing.
use Rattle.std.specs.Prelude.{if◌then◌else◌}
use Prim.Native.Nat.{ℕ, zero, suc, ◌≤◌, ◌<◌}
use native.Mathlib.Omega.{arith}
use mathlib.Core.Path.{◌≡◌, refl, sym, ◌∙◌, subst}
use mathlib.Core.Logic.{inl, inr}
use mathlib.Core.Bool.{Bool, true, false}
use mathlib.Core.List.{List}
use lib.ListN.{length}
use Rattle.tree.specs.Asking.{rows_11}
use Rattle.tree.specs.Record.{numbers}
use Rattle.tree.proofs.Searching.{last_or_below}
use Rattle.paths.specs.Rules.{Family, set_line, set_lines}
use Rattle.paths.proofs.Blocks.{block, set_line_length, block_set_line_same, block_set_line_other}

module _ (rows : List ℕ) (taken : ℕ → Bool) (family : Family) (long : length rows ≡ 1408) where
  -- line n changed, where b says that it is taken
  abbrev one_line : ℕ → Bool → List ℕ
  one_line n b = if b then set_line (set_lines rows taken family n) n (family n) else set_lines rows taken family n

  pub set_lines_length : (n : ℕ) → n ≤ 64 → length (set_lines rows taken family n) ≡ 1408
  unfolding set_lines
  set_lines_length zero most = long
  set_lines_length (suc n) most = by_test (taken n) (set_lines_length n (omega arith))
    where
      by_test : (b : Bool) → length (set_lines rows taken family n) ≡ 1408 → length (one_line n b) ≡ 1408
      by_test true h = set_line_length (set_lines rows taken family n) n (family n) (omega arith) h
      by_test false h = h

  -- line n leaves every other as it was
  other_block : (n M : ℕ) → n < 64 → (M ≡ n → ⊥) → block (set_lines rows taken family (suc n)) M ≡ block (set_lines rows taken family n) M
  unfolding set_lines
  other_block n M below other = by_test (taken n)
    where
      by_test : (b : Bool) → block (one_line n b) M ≡ block (set_lines rows taken family n) M
      by_test true = block_set_line_other (set_lines rows taken family n) n M (family n) below other (set_lines_length n (omega arith))
      by_test false = refl

  -- a line at or above n is as it was
  pub block_not_yet : (n M : ℕ) → n ≤ 64 → n ≤ M → block (set_lines rows taken family n) M ≡ block rows M
  block_not_yet zero M most above = unfold set_lines in refl
  block_not_yet (suc n) M most above = other_block n M most (λ same. omega arith) ∙ block_not_yet n M (omega arith) (omega arith)

  -- a line below n was changed where it is taken
  abbrev block_after : ℕ → List ℕ
  block_after M = if taken M then numbers (rows_11 (family M)) else block rows M

  block_changed_last : (n : ℕ) → n < 64 → block (set_lines rows taken family (suc n)) n ≡ block_after n
  unfolding set_lines
  block_changed_last n below = by_test (taken n)
    where
      by_test : (b : Bool) → block (one_line n b) n ≡ (if b then numbers (rows_11 (family n)) else block rows n)
      by_test true = block_set_line_same (set_lines rows taken family n) n (family n) below (set_lines_length n (omega arith))
      by_test false = block_not_yet n n (omega arith) (omega arith)

  pub block_changed : (n M : ℕ) → n ≤ 64 → M < n → block (set_lines rows taken family n) M ≡ block_after M
  block_changed zero M most below = absurd (omega arith)
  block_changed (suc n) M most below =
      elim (last_or_below M n below) [
        | inl same ↦ subst (λ (k : ℕ). block (set_lines rows taken family (suc n)) k ≡ block_after k) (sym same) (block_changed_last n most)
        | inr earlier ↦ other_block n M most (λ same. omega arith) ∙ block_changed n M (omega arith) earlier
      ]
