-- Reading an order (document 01, Orders, and Who brings a refusal about).
-- Assumes nothing.
use Rattle.std.specs.Prelude.{ℕ, zero, suc, Bool, not, ◌⊎◌, ◌≡◌, [], ◌∷◌, eqb, Option}
use Rattle.tree.specs.Refusals.{refuse, first_refusal}
use Rattle.tree.specs.Calls.{Call, open_line, close_line, Outcome, gives_unless}
use Rattle.orders.specs.declared.Order.{Order}
use Rattle.orders.specs.declared.Order.TheVariants.{Open, Close}
use Rattle.orders.specs.Order.{kind, line, period, filler}
use Rattle.orders.specs.Packing.{kind_above_1, close_with_period}

-- (Refusals, 6) a set bit among the last 4
unfoldable pub filler_set : ℕ → Bool
filler_set n = not (eqb (filler n) 0)

-- (Refusals, sequence) Reading an order: 6 only, so that an open of period 0 is read.
unfoldable pub reading_refusal : ℕ → Option ℕ
reading_refusal n =
    first_refusal
    (refuse 6 (kind_above_1 (kind n)) ∷ refuse 6 (filler_set n) ∷ refuse 6 (close_with_period (kind n) (period n)) ∷ [])

-- (Orders, 2) The call that a kind, a line and a period stand for: kind 0 opens, kind 1 closes.
unfoldable pub call_of : ℕ → ℕ → ℕ → Call
call_of zero L p = open_line L p
call_of (suc k) L p = close_line L

-- (Orders, 2) The kind, line and period that stand for a call: a close has period 0.
unfoldable pub kind_of : Call → ℕ
kind_of (open_line L p) = 0
kind_of (close_line L) = 1

unfoldable pub line_of : Call → ℕ
line_of (open_line L p) = L
line_of (close_line L) = L

unfoldable pub period_of : Call → ℕ
period_of (open_line L p) = p
period_of (close_line L) = 0

-- (Orders, 3) What reading an order gives: a call, or a refusal.
unfoldable pub reading : ℕ → Outcome Call
reading n = gives_unless (reading_refusal n) (call_of (kind n) (line n) (period n))

-- Which orders can be read: filler 0, and kind 0, or kind 1 with period 0.
unfoldable pub Readable : ℕ → Type 0
Readable n = (filler n ≡ 0) × ((kind n ≡ 0) ⊎ ((kind n ≡ 1) × (period n ≡ 0)))

-- the call that the code's order stands for
unfoldable pub call_told : Order → Call
call_told (Open L p) = open_line L p.0
call_told (Close L) = close_line L
