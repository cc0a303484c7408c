-- The list's own checks (specs/Lists.antt), one law for each way that they can go, and what a list that passes them may count on.
-- Assumes nothing.
use Prim.Native.Nat.{ℕ, ◌*◌, ◌/◌, ◌%◌, ◌≤◌}
use mathlib.Core.Path.{◌≡◌}
use mathlib.Core.Bool.{true, false, not}
use Rattle.std.specs.Prelude.{None, Some}
use lib.Dec.{eqb, ltb}
use borrow.Author.Tests.{ltb-false, eqb-true, eq-eqb, ne_eqb, not-false}
use Rattle.tree.specs.Refusals.{first_refusal}
use Rattle.tree.proofs.Checks.{none_strikes, neither}
use Rattle.lists.specs.Lists.{length_refused, room_refused, list_refusal}

-- The length

pub not_in_threes : (n : ℕ) → (n % 3 ≡ 0 → ⊥) → length_refused n ≡ true
unfolding length_refused
not_in_threes n left = rw (ne_eqb (n % 3) 0 left)

pub in_threes : (n : ℕ) → n % 3 ≡ 0 → length_refused n ≡ ltb 65535 n
unfolding length_refused
in_threes n threes = rw (eq-eqb (n % 3) 0 threes)

pub record Fit (n : ℕ) : Type 0 where
  pub threes : n % 3 ≡ 0
  pub not_long : n ≤ 65535

pub fit_length : (n : ℕ) → length_refused n ≡ false → Fit n
unfolding length_refused
fit_length n h =
    let fit = neither (not (eqb (n % 3) 0)) (ltb 65535 n) h in
    record { threes = eqb-true (n % 3) 0 (not-false _ fit.0); not_long = ltb-false 65535 n fit.1 }

-- The two checks in their sequence

module _ (n room : ℕ) where
  pub unfit_length : length_refused n ≡ true → list_refusal n room ≡ Some 7
  unfolding list_refusal first_refusal
  unfit_length unfit = rw unfit

  pub too_little_room : length_refused n ≡ false → room_refused n room ≡ true → list_refusal n room ≡ Some 8
  unfolding list_refusal first_refusal
  too_little_room fit short = rw (fit, short)

  pub checks_passed : length_refused n ≡ false → room_refused n room ≡ false → list_refusal n room ≡ None
  unfolding list_refusal first_refusal
  checks_passed fit enough = rw (fit, enough)

-- what a list that passes its checks may count on
pub record Passed (n room : ℕ) : Type 0 where
  pub threes : n % 3 ≡ 0
  pub not_long : n ≤ 65535
  pub has_room : 2 * (n / 3) ≤ room

pub passed : (n room : ℕ) → list_refusal n room ≡ None → Passed n room
unfolding list_refusal first_refusal room_refused
passed n room h =
    let seven = none_strikes (length_refused n) 7 _ h in
    let eight = none_strikes (room_refused n room) 8 _ seven.1 in
    let fit = fit_length n seven.0 in
    record {
      threes = fit.threes;
      not_long = fit.not_long;
      has_room = ltb-false room (2 * (n / 3)) eight.0;
    }
