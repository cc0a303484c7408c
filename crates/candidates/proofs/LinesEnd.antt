-- The end of the open lines (specs/Edges.antt): the invariant of the loop that looks for it, and that the search needs no line from there on.
-- Assumes nothing.
use Prim.Native.Nat.{ℕ, zero, suc, ◌+◌, ◌-◌, ◌<◌, ◌≤◌}
use native.Mathlib.Omega.{arith}
use native.Mathlib.Nat.{eq-or-lt_of_le}
use mathlib.Core.Path.{◌≡◌}
use mathlib.Core.Logic.{inl, inr}
use mathlib.Core.Bool.{true, false}
use mathlib.Core.List.{List}
use Rattle.tree.specs.Record.{path_at, no_rows}
use Rattle.paths.specs.Rules.{best_on_path, best_of_lines}
use Rattle.paths.proofs.RowLaws.{no_rows_empty}
use Rattle.candidates.specs.Edges.{ClosedFrom, EndOfLines}

pub closed_from_64 : (rows : List ℕ) → ClosedFrom rows 64
closed_from_64 rows = record { within = omega arith; closed = λ M past below. absurd (omega arith) }

module _ {rows : List ℕ} {end : ℕ} (from : ClosedFrom rows end) where
  pub none_open : end ≤ 0 → EndOfLines rows 0
  none_open none_left = record { closed_from = let none : end ≡ 0 = omega arith in rw none at from; last_open = λ M is_next. absurd (omega arith) }

  -- the last of the lines below `end` is closed, or it is open
  module _ (some_left : 0 < end) where
    pub closed_one_more : no_rows (path_at rows (end - 1)) ≡ true → ClosedFrom rows (end - 1)
    closed_one_more is_closed = record { within = omega (arith, from.within); closed = each }
      where
        each : (M : ℕ) → end - 1 ≤ M → M < 64 → no_rows (path_at rows M) ≡ true
        each M past below =
            elim (eq-or-lt_of_le past) [
              | inl here ↦ rw (← here) is_closed
              | inr later ↦ from.closed M (omega arith) below
            ]

    pub last_found : no_rows (path_at rows (end - 1)) ≡ false → EndOfLines rows (end - 1 + 1)
    last_found is_open = let here : end - 1 + 1 ≡ end = omega arith in rw here record {
      closed_from = from;
      last_open = λ M is_next. let next : end - 1 ≡ M = omega arith in rw next at is_open;
    }

  -- closed lines offer nothing
  pub best_before_end : (p n : ℕ) → end ≤ n → n ≤ 64 → best_of_lines (path_at rows) p n ≡ best_of_lines (path_at rows) p end
  unfolding best_of_lines best_on_path
  best_before_end p zero past within = let here : end ≡ 0 = omega arith in rw here
  best_before_end p (suc n) past within =
      elim (eq-or-lt_of_le past) [
        | inl here ↦ rw here
        | inr later ↦
            let no_path = no_rows_empty (path_at rows n) (from.closed n (omega arith) (omega arith)) in
            rw no_path (best_before_end p n (omega arith) (omega arith))
      ]
