-- The loop of `classes_taken`: the classes met so far are marked, and counted.
-- Assumes nothing.
use Prim.Native.Nat.{ℕ, ◌+◌, ◌%◌, ◌<◌, ◌≤◌}
use native.Mathlib.Omega.{arith}
use native.Mathlib.Nat.{mod-lt}
use mathlib.Core.Path.{◌≡◌, refl, sym, ◌∙◌, ap, fun_ext}
use mathlib.Core.Bool.{Bool, true, false, ◌||◌, or-true, or-false}
use mathlib.Core.List.{List}
use lib.Dec.{eqb}
use lib.ListN.{length, replicate}
use borrow.Author.Tests.{eqb-true}
use Rattle.tree.specs.Search.{some_below, count_below}
use Rattle.tree.specs.Record.{row_at, path_at}
use Rattle.paths.specs.Rules.{same_node, takes_class, class_taken, classes_taken}
use Rattle.tree.proofs.Searching.{some_below_none}
use Rattle.tree.proofs.Totals.{count_at_most, count_none, count_one_more}
use Rattle.paths.proofs.NoneBelow.{some_below_more}
use Rattle.paths.proofs.SameNode.{edge_read}
use Rattle.candidates.specs.Edges.{marked, with_mark}
use Rattle.candidates.proofs.Marks.{none_marked, with_mark_length, marked_more}

-- marked are the classes that the lines below M take, and `count` is how many are marked
pub record Counting (rows : List ℕ) (L l d : ℕ) (met : List ℕ) (count M : ℕ) : Type 0 where
  pub within : M ≤ 64
  pub words : length met ≡ 64
  pub each : (i : ℕ) → marked met i ≡ some_below M (takes_class (path_at rows) (path_at rows L) l d i)
  pub count_is : count ≡ count_below d (marked met)

module _ (rows : List ℕ) (L l d : ℕ) where
  pub counting_start : Counting rows L l d (replicate 64 0) 0 0
  counting_start = record {
    within = omega arith;
    words = refl;
    each = λ i. none_marked i ∙ sym (some_below_none 0 (takes_class (path_at rows) (path_at rows L) l d i) (λ M below. absurd (omega arith)));
    count_is = sym (count_none d (marked (replicate 64 0)) none_marked);
  }

  module _ {met : List ℕ} {count M : ℕ} (counting : Counting rows L l d met count M) where
    pub count_small : count ≤ d
    count_small = rw counting.count_is (count_at_most d (marked met))

    -- all lines were met
    pub counting_all : 64 ≤ M → count ≡ classes_taken (path_at rows) (path_at rows L) l d
    unfolding classes_taken class_taken
    counting_all past =
        let all : M ≡ 64 = omega (arith, counting.within) in
        counting.count_is ∙ ap (count_below d) (fun_ext λ i. counting.each i ∙ ap (λ (n : ℕ). some_below n (takes_class (path_at rows) (path_at rows L) l d i)) all)

    module _ (below : M < 64) {b : Bool} (answered : b ≡ same_node l (path_at rows L) (path_at rows M)) where
      pub counting_apart : b ≡ false → Counting rows L l d met count (M + 1)
      counting_apart apart = record {
        within = omega arith;
        words = counting.words;
        each = λ i. counting.each i ∙ sym (or-false _) ∙ rw (some_below_more M (takes_class (path_at rows) (path_at rows L) l d i), ← answered, apart);
        count_is = counting.count_is;
      }

      -- e was read as the edge in row l of line M
      module _ (through : b ≡ true) {e : ℕ} (read : e ≡ (row_at rows M l).edge) (positive : 0 < d) where
        meets : same_node l (path_at rows L) (path_at rows M) ≡ true
        meets = sym answered ∙ through

        class_below : e % d < d
        class_below = mod-lt e positive

        -- the lines below M + 1 take the classes that those below M take, and that of e
        one_more_line : (i : ℕ) → some_below (M + 1) (takes_class (path_at rows) (path_at rows L) l d i) ≡ (marked met i || eqb (e % d) i)
        one_more_line i = rw (some_below_more M (takes_class (path_at rows) (path_at rows L) l d i), counting.each i, edge_read rows (path_at rows L) l M read (λ k. eqb (k % d) i), meets)

        module _ {c : Bool} (looked : c ≡ marked met (e % d)) where
          pub counting_met : c ≡ true → Counting rows L l d met count (M + 1)
          counting_met is_met = record {
            within = omega arith;
            words = counting.words;
            each = λ i. sym (one_more_line i ∙ marked_already i (eqb (e % d) i) refl);
            count_is = counting.count_is;
          }
            where
              marked_already : (i : ℕ) (same : Bool) → eqb (e % d) i ≡ same → (marked met i || eqb (e % d) i) ≡ marked met i
              marked_already i true h = rw h (or-true (marked met i) ∙ sym (ap (marked met) (sym (eqb-true (e % d) i h)) ∙ sym looked ∙ is_met))
              marked_already i false h = rw h (or-false (marked met i))

          pub counting_new : d < 4096 → c ≡ false → {after : List ℕ} → after ≡ with_mark met (e % d) → Counting rows L l d after (count + 1) (M + 1)
          counting_new small is_new written =
              let marked_too = marked_more met (e % d) (omega (arith, class_below, counting.words)) in
              let one_more = count_one_more d (marked met) (e % d) class_below (sym looked ∙ is_new) in
              rw written record {
                within = omega arith;
                words = with_mark_length met (e % d) ∙ counting.words;
                each = λ i. marked_too i ∙ sym (one_more_line i);
                count_is = omega (arith, counting.count_is, one_more, ap (count_below d) (fun_ext marked_too));
              }
