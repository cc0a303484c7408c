-- An answer fits its two bytes: the result its 4 bits and the start its 12, so that no bit of either is lost.
-- Assumes nothing.
use Rattle.std.specs.Prelude.{if◌then◌else◌, Option, None, Some}
use Prim.Native.Nat.{ℕ, ◌<◌}
use native.Mathlib.Omega.{arith}
use mathlib.Core.Path.{◌≡◌, refl}
use mathlib.Core.Bool.{Bool, true, false, not}
use Rattle.tree.specs.Tree.{Tree, is_open}
use Rattle.tree.specs.Shape.{Legal}
use Rattle.tree.specs.Opening.{opened, start_given}
use Rattle.tree.specs.Refusals.{first_refusal, line_above_63, period_out_of_range, no_room, earlier_checks, open_refusal, line_refusal}
use Rattle.tree.specs.Calls.{Call, open_line, close_line, Answer, refused, gives_unless, refusal, reply, answer_unless, answer}
use Rattle.tree.proofs.Standing.{start_below_period}
use Rattle.tree.proofs.Checks.{open_may}
use Rattle.tree.proofs.Opening.{opened_new}
use Rattle.orders.specs.Order.{kind, period}
use Rattle.orders.specs.Packing.{kind_above_1, close_with_period}
use Rattle.orders.specs.Reading.{filler_set, reading_refusal, reading}
use Rattle.lists.specs.Lists.{answer_read, order_answer, result_field, start}

-- a refusal of one digit that is not 0, if it is one
unfoldable pub Small : Option ℕ → Type 0
Small None = Unit
Small (Some n) = (0 < n) × (n < 10)

small_if : (b : Bool) (n : ℕ) (o : Option ℕ) → (0 < n) × (n < 10) → Small o → Small (if b then Some n else o)
unfolding Small
small_if true n o small rest = small
small_if false n o small rest = rest

pub refusal_small : (c : Call) (t : Tree) → Small (refusal c t)
unfolding Small refusal open_refusal earlier_checks line_refusal first_refusal
refusal_small (open_line L p) t =
    small_if (line_above_63 L) 1 _ (omega arith)
    (small_if (period_out_of_range p) 2 _ (omega arith) (small_if (is_open L t) 3 _ (omega arith) (small_if (no_room p t) 5 _ (omega arith) tt)))
refusal_small (close_line L) t = small_if (line_above_63 L) 1 _ (omega arith) (small_if (not (is_open L t)) 4 _ (omega arith) tt)

pub reading_small : (n : ℕ) → Small (reading_refusal n)
unfolding Small reading_refusal first_refusal
reading_small n =
    small_if (kind_above_1 (kind n)) 6 _ (omega arith)
    (small_if (filler_set n) 6 _ (omega arith) (small_if (close_with_period (kind n) (period n)) 6 _ (omega arith) tt))

pub record Fits (a : Answer) : Type 0 where
  pub result_fits : result_field a < 16
  pub start_fits : start a < 4096

refused_fits : (n : ℕ) → (0 < n) × (n < 10) → Fits (refused n)
unfolding result_field start
refused_fits n small = record { result_fits = omega arith; start_fits = omega arith }

reply_fits : (c : Call) (t : Tree) → Legal t → refusal c t ≡ None → Fits (reply c t)
unfolding refusal reply result_field start
reply_fits (open_line L p) t is_legal allowed =
    let may = open_may L p t is_legal allowed in
    let below = start_below_period L (opened L p t) p (start_given p t) (opened_new L p t may) in
    record { result_fits = omega arith; start_fits = omega arith }
reply_fits (close_line L) t is_legal allowed = record { result_fits = omega arith; start_fits = omega arith }

answer_fits : (c : Call) (t : Tree) → Legal t → Fits (answer c t)
unfolding Small answer answer_unless
answer_fits c t is_legal = by_refusal (refusal c t) refl (refusal_small c t)
  where
    by_refusal : (o : Option ℕ) → refusal c t ≡ o → Small o → Fits (answer_unless o (reply c t))
    by_refusal None e small = reply_fits c t is_legal e
    by_refusal (Some n) e small = refused_fits n small

pub order_answer_fits : (n : ℕ) (t : Tree) → Legal t → Fits (order_answer n t)
unfolding Small order_answer answer_read reading gives_unless
order_answer_fits n t is_legal = by_reading (reading_refusal n) (reading_small n) _
  where
    by_reading : (o : Option ℕ) → Small o → (c : Call) → Fits (answer_read (gives_unless o c) t)
    by_reading None small c = answer_fits c t is_legal
    by_reading (Some k) small c = refused_fits k small
