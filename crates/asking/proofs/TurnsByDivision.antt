-- Turns by division (specs/Turns.antt) is how many rounds a line owns, in every legal tree.
-- Assumes nothing.
use Rattle.std.specs.Prelude.{if◌then◌else◌}
use Prim.Native.Nat.{ℕ, zero, suc, ◌+◌, ◌-◌, ◌*◌, ◌/◌, ◌%◌, ◌<◌, ◌≤◌}
use native.Mathlib.Omega.{arith}
use native.Mathlib.Nat.{mod-add-div, mod-lt, mod-eq_of_lt, mod-add-mod, add-mod-mod, add-mod_right, add-mul-mod_self_left, add-mul-div_left, add-div_right, div-eq_of_lt, div-eq_of_lt-le}
use native.Mathlib.Decide.{dec_lt}
use mathlib.Core.Path.{◌≡◌, refl, sym, ◌∙◌, ap}
use mathlib.Core.Bool.{Bool, true, false}
use mathlib.Core.List.{List}
use lib.Dec.{eqb, ltb}
use borrow.Author.Tests.{eqb-true, eqb-false, eq-eqb, ne_eqb, lt-ltb, le-ltb}
use Rattle.tree.specs.Search.{total_below, count_below}
use Rattle.tree.specs.Tree.{Tree, product, sum, is_open, period_of, start_of}
use Rattle.tree.specs.Shape.{Legal}
use Rattle.tree.specs.Asking.{turns}
use Rattle.tree.specs.Record.{path_at, no_rows, legal}
use Rattle.bridge.specs.Rows.{tree_of_rows}
use Rattle.tree.proofs.Proper.{legal_proper}
use Rattle.tree.proofs.Standing.{open_stands, start_below_period}
use Rattle.tree.proofs.Ownership.{owns_by_times}
use Rattle.tree.proofs.Resting.{next_fits}
use Rattle.bridge.proofs.TreeOfRecord.{legal_on_record, paths_on_record}
use Rattle.bridge.proofs.AskingRecords.{open_by_rows}
use Rattle.asking.specs.Turns.{until_turn, turns_by_times}

-- The numbers i below N with i mod q = u: as many as q goes into N + (q - 1 - u)

module _ (q u : ℕ) (below : u < q) where
  period_positive : 0 < q
  period_positive = omega arith

  div_of_sum : (n c : ℕ) → (n + c) / q ≡ (n % q + c) / q + n / q
  div_of_sum n c =
      let parts : n + c ≡ n % q + c + q * (n / q) = omega (arith, mod-add-div n q) in
      ap (λ (m : ℕ). m / q) parts ∙ add-mul-div_left (n % q + c) (n / q) period_positive

  quotient_1 : (n : ℕ) → q ≤ n → n < 2 * q → n / q ≡ 1
  quotient_1 n low high = div-eq_of_lt-le q (omega arith) (omega arith)

  -- that quotient is 1 larger at n + 1 than at n where n mod q = u, else the same
  one_round : (n : ℕ) → (n + (q - u)) / q ≡ (n + (q - 1 - u)) / q + (if eqb (n % q) u then 1 else 0)
  one_round n =
      let remainder_below = mod-lt n period_positive in
      let with_it = div_of_sum n (q - u) in
      let so_far = div_of_sum n (q - 1 - u) in
      elim (dec_lt (n % q) u) [
        | yes earlier ↦
            let a : (n % q + (q - u)) / q ≡ 0 = div-eq_of_lt (omega arith) in
            let b : (n % q + (q - 1 - u)) / q ≡ 0 = div-eq_of_lt (omega arith) in
            rw (ne_eqb (n % q) u (λ e. omega arith)) (omega arith)
        | no e ↦ elim (dec_lt u (n % q)) [
          | yes later ↦
              let a = quotient_1 (n % q + (q - u)) (omega arith) (omega arith) in
              let b = quotient_1 (n % q + (q - 1 - u)) (omega arith) (omega arith) in
              rw (ne_eqb (n % q) u (λ e. omega arith)) (omega arith)
          | no l ↦
              let a = quotient_1 (n % q + (q - u)) (omega arith) (omega arith) in
              let b : (n % q + (q - 1 - u)) / q ≡ 0 = div-eq_of_lt (omega arith) in
              rw (eq-eqb (n % q) u (omega arith)) (omega arith)
        ]
      ]

  count_by_quotient : (N : ℕ) → count_below N (λ i. eqb (i % q) u) ≡ (N + (q - 1 - u)) / q
  unfolding count_below total_below
  count_by_quotient zero = sym (div-eq_of_lt (omega arith))
  count_by_quotient (suc N) =
      let after : N + (q - u) ≡ suc N + (q - 1 - u) = omega arith in
      rw (count_by_quotient N, ← after) (sym (one_round N))

  -- the first of them is u, and each q numbers later comes another
  quotient_from_first : (N : ℕ) → (N + (q - 1 - u)) / q ≡ (if ltb u N then (N - 1 - u) / q + 1 else 0)
  quotient_from_first N =
      elim (dec_lt u N) [
        | yes reached ↦
            let parts : N + (q - 1 - u) ≡ N - 1 - u + q = omega arith in
            rw (lt-ltb u N reached, parts) (add-div_right (N - 1 - u) period_positive)
        | no short ↦ rw (le-ltb u N (omega arith)) (div-eq_of_lt (omega arith))
      ]

-- The rounds from a on that fit a line of period q and start u

-- the next one is less than a period away
pub until_below : (q u a : ℕ) → 0 < q → until_turn q u a < q
unfolding until_turn
until_below q u a period_positive = mod-lt (u + q - a % q) period_positive

module _ (q u : ℕ) (below : u < q) (a : ℕ) where
  -- this period's turn is still to come, or it is now
  pub until_in_period : a % q ≤ u → until_turn q u a ≡ u - a % q
  unfolding until_turn
  until_in_period ahead =
      let whole : u + q - a % q ≡ u - a % q + q = omega arith in
      rw whole (add-mod_right (u - a % q) q ∙ mod-eq_of_lt (omega arith))

  -- it is over, and the next period's is to come
  pub until_in_next : u < a % q → until_turn q u a ≡ u + q - a % q
  unfolding until_turn
  until_in_next over = mod-eq_of_lt (omega arith)

  -- after so many rounds comes one that fits
  pub until_fits : (a + until_turn q u a) % q ≡ u
  unfolding until_turn
  until_fits = next_fits q u a below

  -- and then only after whole periods
  pub fits_until : (i : ℕ) → (a + i) % q ≡ u → i % q ≡ until_turn q u a
  unfolding until_turn
  fits_until i fits =
      let remainder_below = mod-lt a (period_positive q u below) in
      let sum : a + i + (q - a % q) ≡ i + q * (a / q + 1) = omega (arith, mod-add-div a q) in
      let same : u + q - a % q ≡ u + (q - a % q) = omega arith in
      rw (same, ← fits, mod-add-mod (a + i) q (q - a % q), sum) (sym (add-mul-mod_self_left i q (a / q + 1)))

  same_test : (i : ℕ) → eqb ((a + i) % q) u ≡ eqb (i % q) (until_turn q u a)
  same_test i = by_test (eqb ((a + i) % q) u) refl
    where
      by_test : (b : Bool) → eqb ((a + i) % q) u ≡ b → b ≡ eqb (i % q) (until_turn q u a)
      by_test true e = sym (eq-eqb _ _ (fits_until i (eqb-true _ _ e)))
      by_test false e =
          sym (ne_eqb _ _ (λ h. eqb-false _ _ e (sym (add-mod-mod a i q) ∙ ap (λ (n : ℕ). (a + n) % q) h ∙ until_fits)))

  fitting_by_division : (N : ℕ) → count_below N (λ i. eqb ((a + i) % q) u) ≡ turns_by_times q u a N
  unfolding turns_by_times
  fitting_by_division N =
      let less = until_below q u a (period_positive q u below) in
      (λ k. count_below N (λ i. same_test i k))
      ∙ count_by_quotient q (until_turn q u a) less N
      ∙ quotient_from_first q (until_turn q u a) less N

-- (Ask 1, 2) The turns of an open line, of N rounds from a on: those that fit its period and start, by division.
pub turns_by_division : (t : Tree) → Legal t → (L : ℕ) → is_open L t ≡ true → (a N : ℕ) → turns L a N t ≡ turns_by_times (period_of L t) (start_of L t) a N
unfolding turns
turns_by_division t is_legal L there a N =
    let stands = open_stands L t there in
    (λ k. count_below N (λ i. owns_by_times L (a + i) t _ _ (legal_proper t is_legal) stands k))
    ∙ fitting_by_division _ _ (start_below_period L t _ _ stands) a N

-- of a line of a legal record, by the product and the sum of its path
pub turns_on_record : (rows : List ℕ) → legal rows ≡ true → (L : ℕ) → L < 64 → no_rows (path_at rows L) ≡ false → (a N : ℕ) →
    turns L a N (tree_of_rows rows) ≡ turns_by_times (product (path_at rows L)) (sum (path_at rows L)) a N
unfolding period_of start_of
turns_on_record rows is_legal L below there a N =
    rw (← paths_on_record rows is_legal L below) at
    (turns_by_division (tree_of_rows rows) (legal_on_record rows) L (open_by_rows rows is_legal L (omega arith) false there) a N)
