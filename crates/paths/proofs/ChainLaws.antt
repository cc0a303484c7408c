-- Laws of chains of lines (specs/Chains.antt), and the invariant of a walk along one.
-- Assumes nothing.
use Rattle.std.specs.Prelude.{if◌then◌else◌}
use Prim.Native.Nat.{ℕ, zero, suc, ◌+◌, ◌-◌, ◌<◌, ◌≤◌, zero-le}
use native.Mathlib.Decide.{ℕ_discrete, dec_lt}
use native.Mathlib.Omega.{arith}
use native.Mathlib.Numerals.{add-one}
use mathlib.Core.Path.{◌≡◌, refl, sym, ◌∙◌}
use mathlib.Core.Bool.{Bool, true, false, not, ◌||◌, true≢false}
use lib.Dec.{eqb}
use lib.ListN.{get_or, replicate, length-set}
use lib.Seq.{get_or-set_same, get_or-set_other}
use borrow.Author.Tests.{eqb-true, eq-eqb, ne_eqb}
use Rattle.std.proofs.lemmas.List.{get_or-replicate}
use Rattle.tree.specs.Search.{all_below}
use Rattle.tree.proofs.Searching.{all_below_each}
use Rattle.paths.specs.Chains.{WholeArrays, with_line, last_entry, Chained}
use Rattle.paths.specs.declared.chains.Chains.{Chains}
use Rattle.paths.proofs.AllBelow.{all_below_fault}

-- The last entry below n

module _ (test : ℕ → Bool) where
  last_entry_within : (n : ℕ) → last_entry n test ≤ n
  unfolding last_entry
  last_entry_within zero = zero-le
  last_entry_within (suc n) = go (last_entry_within n) (test n)
    where
      go : last_entry n test ≤ n → (b : Bool) → (if b then suc n else last_entry n test) ≤ suc n
      go within true = omega arith
      go within false = omega arith

  last_entry_passes : (n : ℕ) → (last_entry n test ≡ 0 → ⊥) → test (last_entry n test - 1) ≡ true
  unfolding last_entry
  last_entry_passes zero some = absurd (some refl)
  last_entry_passes (suc n) some = go (last_entry_passes n) (test n) refl some
    where
      go : ((last_entry n test ≡ 0 → ⊥) → test (last_entry n test - 1) ≡ true) → (b : Bool) → test n ≡ b → ((if b then suc n else last_entry n test) ≡ 0 → ⊥) → test ((if b then suc n else last_entry n test) - 1) ≡ true
      go earlier true h some = let e : suc n - 1 ≡ n = omega arith in rw e h
      go earlier false h some = earlier some

  fails_after_last : (n L : ℕ) → last_entry n test ≤ L → L < n → test L ≡ false
  unfolding last_entry
  fails_after_last zero L after below = absurd (omega arith)
  fails_after_last (suc n) L after below = go (fails_after_last n L) (test n) refl after
    where
      go : (last_entry n test ≤ L → L < n → test L ≡ false) → (b : Bool) → test n ≡ b → (if b then suc n else last_entry n test) ≤ L → test L ≡ false
      go earlier true h after = absurd (omega arith)
      go earlier false h after =
          elim (ℕ_discrete L n) [
            | yes same ↦ rw same h
            | no other ↦ earlier after (omega arith)
          ]

-- The chains of the lines below n

pub no_chains : (member : ℕ → ℕ → Bool) {chains : Chains} → chains.head ≡ replicate 128 0 → chains.link ≡ replicate 64 0 → Chained member chains 0
unfolding WholeArrays last_entry
no_chains member {chains} head link = record {
  arrays = (rw head refl, rw link refl);
  begins = λ b below. rw head (get_or-replicate 128 b 0 0 below);
  goes_on = λ b L below in_bucket. absurd (omega arith);
}

module _ {member : ℕ → ℕ → Bool} {chains : Chains} {n : ℕ} (chained : Chained member chains n) where
  -- line n is in no bucket
  pub not_in_chains : ((b : ℕ) → member b n ≡ false) → Chained member chains (n + 1)
  unfolding last_entry
  not_in_chains in_none = record {
    arrays = chained.arrays;
    begins = λ b below. chained.begins b below ∙ rw (add-one, in_none b) refl;
    goes_on = λ b L below in_bucket. elim (ℕ_discrete L n) [
      | yes same ↦ absurd (true≢false (sym in_bucket ∙ rw same (in_none b)))
      | no other ↦ chained.goes_on b L (omega arith) in_bucket
    ];
  }

  -- line n is in bucket b, and was entered there
  pub entered : (b : ℕ) → b < 128 → n < 64 → ((c : ℕ) → member c n ≡ eqb b c) → Chained member (with_line chains b n) (n + 1)
  unfolding WholeArrays with_line last_entry
  entered b in_head in_link of_bucket = record {
    arrays = (length-set chains.head b (n + 1) ∙ chained.arrays.0, length-set chains.link n (get_or chains.head b 0) ∙ chained.arrays.1);
    begins = λ c below. elim (ℕ_discrete c b) [
      | yes same ↦ rw (same, add-one, of_bucket b, eq-eqb b b refl) (get_or-set_same chains.head b (suc n) 0 (omega (arith, chained.arrays.0)))
      | no other ↦ get_or-set_other chains.head b c (n + 1) 0 other ∙ chained.begins c below ∙ rw (add-one, of_bucket c, ne_eqb b c (λ same. other (sym same))) refl
    ];
    goes_on = λ c L below in_bucket. elim (ℕ_discrete L n) [
      | yes same ↦
          let its_bucket : b ≡ c = eqb-true b c (sym (of_bucket c) ∙ rw (← same) in_bucket) in
          rw (same, ← its_bucket) (get_or-set_same chains.link n (get_or chains.head b 0) 0 (omega (arith, chained.arrays.1)) ∙ chained.begins b in_head)
      | no other ↦ get_or-set_other chains.link n L (get_or chains.head b 0) 0 other ∙ chained.goes_on c L (omega arith) in_bucket
    ];
  }

-- A walk along a bucket's chain

-- the walk has come to an entry: the bucket's lines from there on passed the test
pub record Walked (in_bucket test : ℕ → Bool) (n entry : ℕ) : Type 0 where
  pub within : entry ≤ n
  pub line_in_bucket : (entry ≡ 0 → ⊥) → in_bucket (entry - 1) ≡ true
  pub passed : (L : ℕ) → entry ≤ L → L < n → in_bucket L ≡ true → test L ≡ true

module _ {member : ℕ → ℕ → Bool} {chains : Chains} {n : ℕ} (chained : Chained member chains n) {b : ℕ} {test : ℕ → Bool} {entry : ℕ} where
  pub walk_start : b < 128 → entry ≡ get_or chains.head b 0 → Walked (member b) test n entry
  walk_start in_head first = rw (first, chained.begins b in_head) record {
    within = last_entry_within (member b) n;
    line_in_bucket = last_entry_passes (member b) n;
    passed = λ L after below here. absurd (true≢false (sym here ∙ fails_after_last (member b) n L after below));
  }

  module _ (walked : Walked (member b) test n entry) (some : entry ≡ 0 → ⊥) {next : ℕ} (following : next ≡ get_or chains.link (entry - 1) 0) where
    next_is_last : next ≡ last_entry (entry - 1) (member b)
    next_is_last = following ∙ chained.goes_on b (entry - 1) (omega (arith, walked.within)) (walked.line_in_bucket some)

    -- a chain goes to smaller and smaller lines
    pub entries_fall : next < entry
    entries_fall = omega (arith, next_is_last, last_entry_within (member b) (entry - 1))

    pub walk_more : test (entry - 1) ≡ true → Walked (member b) test n next
    walk_more passes = record {
      within = omega (arith, entries_fall, walked.within);
      line_in_bucket = rw next_is_last (last_entry_passes (member b) (entry - 1));
      passed = λ L after below here. elim (dec_lt L (entry - 1)) [
        | yes earlier ↦ absurd (true≢false (sym here ∙ fails_after_last (member b) (entry - 1) L (rw next_is_last at after) earlier))
        | no not_earlier ↦ elim (ℕ_discrete L (entry - 1)) [
          | yes same ↦ rw same passes
          | no other ↦ walked.passed L (omega arith) below here
        ]
      ];
    }

module _ {in_bucket test : ℕ → Bool} {n entry : ℕ} (walked : Walked in_bucket test n entry) where
  pub walk_fault : (entry ≡ 0 → ⊥) → test (entry - 1) ≡ false → all_below n (λ L. not (in_bucket L) || test L) ≡ false
  walk_fault some fails = all_below_fault n _ (entry - 1) (omega (arith, walked.within)) (rw (walked.line_in_bucket some) fails)

  pub walked_all : entry ≡ 0 → all_below n (λ L. not (in_bucket L) || test L) ≡ true
  walked_all ended = all_below_each n _ (λ L below. go L below (in_bucket L) refl)
    where
      go : (L : ℕ) → L < n → (b : Bool) → in_bucket L ≡ b → (not b || test L) ≡ true
      go L below true here = walked.passed L (omega arith) below here
      go L below false here = refl
