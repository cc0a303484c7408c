-- The lines that the check has passed (specs/Passed.antt), and when an open line goes together with them.
-- Assumes nothing.
use Prim.Native.Nat.{ℕ, ◌+◌, ◌%◌, ◌<◌}
use native.Mathlib.Decide.{ℕ_discrete}
use native.Mathlib.Omega.{arith}
use native.Mathlib.Nat.{mod-lt}
use mathlib.Core.Path.{◌≡◌, refl, sym, ◌∙◌}
use mathlib.Core.Logic.{◌⊎◌, inl, inr}
use mathlib.Core.Bool.{Bool, true, false, not, ◌&&◌, ◌||◌, true≢false}
use mathlib.Core.List.{List}
use lib.Dec.{eqb}
use lib.ListN.{replicate}
use borrow.Author.Tests.{eq-eqb, eqb-false}
use Rattle.tree.specs.Record.{row_at, path_at, no_rows, parts}
use Rattle.tree.proofs.Searching.{all_below_at, all_below_each}
use Rattle.paths.specs.Answers.{joins_earlier}
use Rattle.paths.specs.Chains.{with_line}
use Rattle.paths.specs.Passed.{root_bucket, parts_from_bucket, PassedBelow}
use Rattle.paths.specs.declared.chains.Chains.{Chains}
use Rattle.paths.specs.declared.passed.Passed.{Passed}
use Rattle.paths.proofs.AllBelow.{all_below_fault, all_below_faulty}
use Rattle.paths.proofs.ChainLaws.{no_chains, not_in_chains, entered}
use Rattle.paths.proofs.LegalLines.{goes_with, closed_together, open_together}
use Rattle.paths.proofs.PathRest.{no_rows_by_weight}
use Rattle.paths.proofs.PathsPart.{alike_start, other_node, other_edge}

-- Two open lines at the root

module _ (rows : List ℕ) where
  open_weight : (L : ℕ) → no_rows (path_at rows L) ≡ false → (row_at rows L 0).weight ≡ 0 → ⊥
  open_weight L is_open = eqb-false _ _ (sym (no_rows_by_weight rows L) ∙ is_open)

  module _ (M L : ℕ) (is_open : no_rows (path_at rows M) ≡ false) where
    other_root_parts : ((row_at rows L 0).weight ≡ (row_at rows M 0).weight → ⊥) → parts (path_at rows M) (path_at rows L) ≡ false
    other_root_parts other = other_node (alike_start rows M L) (omega arith) refl (open_weight M is_open) refl other

    other_edge_parts : (row_at rows L 0).weight ≡ (row_at rows M 0).weight → ((row_at rows M 0).edge ≡ (row_at rows L 0).edge → ⊥) → parts (path_at rows M) (path_at rows L) ≡ true
    other_edge_parts same other = other_edge (alike_start rows M L) (omega arith) refl (open_weight M is_open) refl same refl refl other

-- The lines passed

pub none_passed : (rows : List ℕ) {passed : Passed} → passed.root ≡ 0 → passed.chains.head ≡ replicate 128 0 → passed.chains.link ≡ replicate 64 0 → PassedBelow rows 0 passed
none_passed rows no_root head link = record {
  one_root = λ L below is_open. absurd (omega arith);
  some_line = λ root. absurd (root no_root);
  chained = no_chains (root_bucket rows) head link;
}

module _ {rows : List ℕ} {L : ℕ} {passed : Passed} (before : PassedBelow rows L passed) where
  pub closed_passed : no_rows (path_at rows L) ≡ true → PassedBelow rows (L + 1) passed
  unfolding root_bucket
  closed_passed closed = record {
    one_root = λ M below is_open. elim (ℕ_discrete M L) [
      | yes same ↦ absurd (true≢false (sym closed ∙ rw (← same) is_open))
      | no other ↦ before.one_root M (omega arith) is_open
    ];
    some_line = λ root. let x = before.some_line root in (x.0, omega (arith, x.1), x.2);
    chained = not_in_chains before.chained (λ b. rw closed refl);
  }

  module _ (is_open : no_rows (path_at rows L) ≡ false) where
    with_earlier : (M : ℕ) → no_rows (path_at rows M) ≡ false → goes_with rows L M ≡ parts (path_at rows M) (path_at rows L)
    with_earlier M earlier_open = open_together (path_at rows M) (path_at rows L) earlier_open is_open

    pub other_root : {w : ℕ} → w ≡ (row_at rows L 0).weight → (passed.root ≡ 0 → ⊥) → (passed.root ≡ w → ⊥) → joins_earlier rows L ≡ false
    unfolding joins_earlier
    other_root read root other =
        let x = before.some_line root in
        let M = x.0 in
        all_below_fault L (goes_with rows L) M x.1 (with_earlier M x.2.0 ∙ other_root_parts rows M L x.2.0 (λ same. other (sym x.2.1 ∙ sym same ∙ sym read)))

    pub bucket_fault : (b : ℕ) → parts_from_bucket rows b L ≡ false → joins_earlier rows L ≡ false
    unfolding joins_earlier parts_from_bucket root_bucket
    bucket_fault b fault =
        let x = all_below_faulty L _ fault in
        let M = x.0 in
        all_below_fault L (goes_with rows L) M x.1 (go M (no_rows (path_at rows M)) refl x.2)
      where
        falls : (c r : Bool) → (not c || r) ≡ false → r ≡ false
        falls true r h = h
        falls false r h = absurd (true≢false h)

        go : (M : ℕ) (c : Bool) → no_rows (path_at rows M) ≡ c → (not (not c && eqb ((row_at rows M 0).edge % 128) b) || parts (path_at rows M) (path_at rows L)) ≡ false → goes_with rows L M ≡ false
        go M true closed h = absurd (true≢false h)
        go M false earlier_open h = with_earlier M earlier_open ∙ falls _ _ h

    -- w and e were read as the line's weight and edge at the root, and w is the weight of the lines passed, if there are any
    module _ {w e : ℕ} (read : w ≡ (row_at rows L 0).weight) (read_edge : e ≡ (row_at rows L 0).edge) (its_root : (passed.root ≡ 0) ⊎ (passed.root ≡ w)) where
      same_root : (M : ℕ) → M < L → no_rows (path_at rows M) ≡ false → (row_at rows M 0).weight ≡ w
      same_root M below earlier_open = go its_root
        where
          go : (passed.root ≡ 0) ⊎ (passed.root ≡ w) → (row_at rows M 0).weight ≡ w
          go (inl none) = absurd (open_weight rows M earlier_open (before.one_root M below earlier_open ∙ none))
          go (inr same) = before.one_root M below earlier_open ∙ same

      pub bucket_right : parts_from_bucket rows (e % 128) L ≡ true → joins_earlier rows L ≡ true
      unfolding joins_earlier parts_from_bucket root_bucket
      bucket_right right = all_below_each L (goes_with rows L) (λ M below. go M below (no_rows (path_at rows M)) refl)
        where
          go : (M : ℕ) → M < L → (c : Bool) → no_rows (path_at rows M) ≡ c → goes_with rows L M ≡ true
          go M below true closed = closed_together (path_at rows M) (path_at rows L) closed
          go M below false earlier_open = with_earlier M earlier_open ∙ elim (ℕ_discrete (row_at rows M 0).edge e) [
            | yes same ↦ rw (earlier_open, same, eq-eqb (e % 128) _ refl) at (all_below_at L _ right M below)
            | no other ↦ other_edge_parts rows M L earlier_open (sym read ∙ sym (same_root M below earlier_open)) (λ same. other (same ∙ sym read_edge))
          ]

      pub open_passed : L < 64 → {chains : Chains} → chains ≡ with_line passed.chains (e % 128) L → PassedBelow rows (L + 1) (record { root = w; chains = chains })
      unfolding root_bucket
      open_passed in_range entered_line = rw entered_line record {
        one_root = λ M below earlier_open. elim (ℕ_discrete M L) [
          | yes same ↦ rw same (sym read)
          | no other ↦ same_root M (omega arith) earlier_open
        ];
        some_line = λ root. (L, omega arith, (is_open, sym read));
        chained = entered before.chained (e % 128) (mod-lt _ (omega arith)) in_range (λ c. rw (is_open, read_edge) refl);
      }
