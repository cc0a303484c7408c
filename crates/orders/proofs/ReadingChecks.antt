-- Reading (specs/Reading.antt), check by check: exactly which orders are read, and that every other is refused with 6.
-- Assumes nothing.
use Prim.Native.Nat.{ℕ, ◌<◌, ◌≤◌}
use native.Mathlib.Omega.{arith}
use native.Mathlib.Decide.{dec_lt, ℕ_discrete}
use mathlib.Core.Path.{◌≡◌, ◌∙◌}
use mathlib.Core.Logic.{◌⊎◌, inl, inr, ⊎_elim}
use borrow.Author.Tests.{lt-ltb, le-ltb, eq-eqb, ne_eqb}
use Rattle.tree.specs.Refusals.{first_refusal}
use Rattle.tree.specs.Calls.{Call, open_line, close_line, gives, refuses, gives_unless}
use Rattle.orders.specs.Order.{kind, line, period, filler}
use Rattle.orders.specs.Packing.{kind_above_1}
use Rattle.orders.specs.Reading.{filler_set, reading_refusal, call_of, reading, Readable}
use Rattle.orders.proofs.PackingChecks.{closes_with_period, closes_with_no_period}

module _ (n : ℕ) where
  -- What is read

  passes : kind n ≤ 1 → filler n ≡ 0 → (kind n ≡ 1 → period n ≡ 0) → reading n ≡ gives (call_of (kind n) (line n) (period n))
  unfolding reading reading_refusal first_refusal gives_unless kind_above_1 filler_set
  passes kind_small filler_0 close_plain =
      rw (le-ltb 1 (kind n) kind_small, eq-eqb (filler n) 0 filler_0, closes_with_no_period (kind n) (period n) close_plain)

  pub open_read : kind n ≡ 0 → filler n ≡ 0 → reading n ≡ gives (open_line (line n) (period n))
  unfolding call_of
  open_read is_open filler_0 = passes (omega arith) filler_0 (λ is_close. omega arith) ∙ rw is_open

  pub close_read : kind n ≡ 1 → filler n ≡ 0 → period n ≡ 0 → reading n ≡ gives (close_line (line n))
  unfolding call_of
  close_read is_close filler_0 period_0 = passes (omega arith) filler_0 (λ _. period_0) ∙ rw is_close

  -- What is refused

  pub kind_unread : 1 < kind n → reading n ≡ refuses 6
  unfolding reading reading_refusal first_refusal gives_unless kind_above_1
  kind_unread kind_large = rw (lt-ltb 1 (kind n) kind_large)

  pub filler_unread : (filler n ≡ 0 → ⊥) → reading n ≡ refuses 6
  unfolding reading reading_refusal first_refusal gives_unless kind_above_1 filler_set
  filler_unread some_bit =
      elim (dec_lt 1 (kind n)) [
        | yes kind_large ↦ kind_unread kind_large
        | no kind_small ↦ rw (le-ltb 1 (kind n) (omega arith), ne_eqb (filler n) 0 some_bit)
      ]

  pub close_unread : kind n ≡ 1 → (period n ≡ 0 → ⊥) → reading n ≡ refuses 6
  unfolding reading reading_refusal first_refusal gives_unless kind_above_1 filler_set
  close_unread is_close some_period =
      elim (ℕ_discrete (filler n) 0) [
        | no some_bit ↦ filler_unread some_bit
        | yes filler_0 ↦
            rw (le-ltb 1 (kind n) (omega arith), eq-eqb (filler n) 0 filler_0, closes_with_period (kind n) (period n) is_close some_period)
      ]

  -- Exactly which orders are read

  pub readable_is_read : Readable n → reading n ≡ gives (call_of (kind n) (line n) (period n))
  unfolding Readable
  readable_is_read r =
      ⊎_elim (λ is_open. passes (omega arith) r.0 (λ is_close. omega arith)) (λ w. passes (omega (arith, w.0)) r.0 (λ is_close. w.1)) r.1

  pub unreadable_is_refused : (Readable n → ⊥) → reading n ≡ refuses 6
  unfolding Readable
  unreadable_is_refused unreadable =
      elim (ℕ_discrete (filler n) 0) [
        | no some_bit ↦ filler_unread some_bit
        | yes filler_0 ↦
            elim (ℕ_discrete (kind n) 0) [
              | yes is_open ↦ absurd (unreadable (filler_0, inl is_open))
              | no not_open ↦
                  elim (ℕ_discrete (kind n) 1) [
                    | no not_close ↦ kind_unread (omega arith)
                    | yes is_close ↦ close_unread is_close (λ period_0. unreadable (filler_0, inr (is_close, period_0)))
                  ]
            ]
      ]

  pub read_is_readable : (c : Call) → reading n ≡ gives c → Readable n
  unfolding Readable
  read_is_readable c read = (filler_0, kinds)
    where
      never : reading n ≡ refuses 6 → ⊥
      never refused = let z : ◌≡◌ {A = ℕ} 0 1 = cc in omega arith

      filler_0 : filler n ≡ 0
      filler_0 = elim (ℕ_discrete (filler n) 0) [ yes e ↦ e | no some_bit ↦ absurd (never (filler_unread some_bit)) ]

      period_0 : kind n ≡ 1 → period n ≡ 0
      period_0 is_close =
          elim (ℕ_discrete (period n) 0) [ yes e ↦ e | no some_period ↦ absurd (never (close_unread is_close some_period)) ]

      kind_small : kind n ≤ 1
      kind_small = let small : 1 < kind n → ⊥ = λ h. never (kind_unread h) in omega arith

      kinds : (kind n ≡ 0) ⊎ ((kind n ≡ 1) × (period n ≡ 0))
      kinds =
          elim (ℕ_discrete (kind n) 0) [
            | yes is_open ↦ inl is_open
            | no not_open ↦ let is_close : kind n ≡ 1 = omega (arith, kind_small) in inr (is_close, period_0 is_close)
          ]
