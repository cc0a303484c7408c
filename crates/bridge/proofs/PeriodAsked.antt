-- A period of any size, asked as `tree::period_asked` hands it on: the open is answered, the record left, and trial and reason told, as for the period itself.
-- Assumes nothing.
use Rattle.std.specs.Prelude.{if◌then◌else◌, Some}
use Prim.Native.Nat.{ℕ, ◌<◌}
use native.Mathlib.Omega.{arith}
use native.Mathlib.Decide.{dec_lt}
use mathlib.Core.Path.{◌≡◌, refl}
use mathlib.Core.Bool.{Bool, true, false}
use mathlib.Core.List.{List}
use lib.Dec.{ltb}
use borrow.Author.Tests.{ltb-true}
use Rattle.tree.specs.Tree.{Tree, Place}
use Rattle.tree.specs.Refusals.{open_refusal}
use Rattle.tree.specs.Calls.{open_line, Answer, refusal, answer_unless, answer, gives_unless, reason_outcome}
use Rattle.tree.specs.Trial.{trial_outcome}
use Rattle.tree.proofs.Checks.{open_refused_1, open_refused_2, above_out_of_range, reason_refused_2}
use Rattle.bridge.specs.Rows.{tree_of_rows, rows_unless, rows_after, CarriedOut}

-- 4,096 and every period above 4,095 are refused alike, with 1 or 2
refused_alike : (L p : ℕ) (t : Tree) → 4095 < p → (n : ℕ) × (open_refusal L 4096 t ≡ Some n) × (open_refusal L p t ≡ Some n)
refused_alike L p t large =
    elim (dec_lt 63 L) [
      | yes above ↦ (1, open_refused_1 L 4096 t above, open_refused_1 L p t above)
      | no inside ↦ (
        2,
        open_refused_2 L 4096 t (omega arith) (above_out_of_range 4096 (omega arith) (omega arith)),
        open_refused_2 L p t (omega arith) (above_out_of_range p (omega arith) large),
      )
    ]

-- so 4,096 stands for such a period

pub period_stands_for : (L p : ℕ) (before after : List ℕ) (a : Answer) →
    CarriedOut (open_line L (if ltb 4095 p then 4096 else p)) before after a → CarriedOut (open_line L p) before after a
unfolding answer answer_unless rows_after rows_unless refusal
period_stands_for L p before after a = by_test (ltb 4095 p) refl
  where
    by_test : (b : Bool) → ltb 4095 p ≡ b → CarriedOut (open_line L (if b then 4096 else p)) before after a → CarriedOut (open_line L p) before after a
    by_test false e carried = carried
    by_test true e carried =
        let alike = refused_alike L p (tree_of_rows before) (ltb-true 4095 p e) in
        record { answer_is = rw alike.2 (rw alike.1 at carried.answer_is); rows_are = rw alike.2 (rw alike.1 at carried.rows_are) }

pub trial_stands_for : (L p : ℕ) (t : Tree) → trial_outcome L (if ltb 4095 p then 4096 else p) t ≡ trial_outcome L p t
unfolding trial_outcome gives_unless
trial_stands_for L p t = by_test (ltb 4095 p) refl
  where
    by_test : (b : Bool) → ltb 4095 p ≡ b → trial_outcome L (if b then 4096 else p) t ≡ trial_outcome L p t
    by_test false e = refl
    by_test true e = let alike = refused_alike L p t (ltb-true 4095 p e) in rw (alike.1, alike.2)

pub reason_stands_for : (p : ℕ) (a : Place) (i : ℕ) (t : Tree) → reason_outcome (if ltb 4095 p then 4096 else p) a i t ≡ reason_outcome p a i t
unfolding reason_outcome gives_unless
reason_stands_for p a i t = by_test (ltb 4095 p) refl
  where
    by_test : (b : Bool) → ltb 4095 p ≡ b → reason_outcome (if b then 4096 else p) a i t ≡ reason_outcome p a i t
    by_test false e = refl
    by_test true e =
        let large : 4095 < p = ltb-true 4095 p e in
        rw (reason_refused_2 4096 a i t (above_out_of_range 4096 (omega arith) (omega arith)), reason_refused_2 p a i t (above_out_of_range p (omega arith) large))
