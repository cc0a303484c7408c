-- Packing an order (document 01, Orders, 3, and Who brings a refusal about).
-- Assumes nothing.
use Rattle.std.specs.Prelude.{ℕ, Bool, not, ◌&&◌, [], ◌∷◌, eqb, ltb, Option}
use Rattle.tree.specs.Refusals.{refuse, first_refusal, line_above_63}
use Rattle.tree.specs.Calls.{Outcome, gives_unless}
use Rattle.orders.specs.declared.Bytes.{Bytes}
use Rattle.orders.specs.Order.{bytes_of, order_with}

-- (Refusals, 6) kind above 1
unfoldable pub kind_above_1 : ℕ → Bool
kind_above_1 k = ltb 1 k

-- (Refusals, 2) of packing: a period of 0 passes
unfoldable pub period_above_4095 : ℕ → Bool
period_above_4095 p = ltb 4095 p

-- (Refusals, 6) a close whose period is not 0
unfoldable pub close_with_period : ℕ → ℕ → Bool
close_with_period k p = eqb k 1 && not (eqb p 0)

-- (Refusals, sequence) Packing: kind (6), 1, 2, close with a period (6).
unfoldable pub packing_refusal : ℕ → ℕ → ℕ → Option ℕ
packing_refusal k L p =
    first_refusal
    (refuse 6 (kind_above_1 k) ∷ refuse 1 (line_above_63 L) ∷ refuse 2 (period_above_4095 p) ∷ refuse 6 (close_with_period k p) ∷ [])

-- (Orders, 3) What packing a kind, a line and a period gives: three bytes, or a refusal.
unfoldable pub packing : ℕ → ℕ → ℕ → Outcome Bytes
packing k L p = gives_unless (packing_refusal k L p) (bytes_of (order_with k L p))
