-- What packing and reading an order give, for every three bytes and every number.
-- Assumes nothing.
use Rattle.std.specs.Prelude.{ℕ, ◌≡◌, List, [], ◌∷◌, ℤ, get_or}
use Rattle.tree.specs.Calls.{Call}
use Rattle.orders.specs.declared.Bytes.{Bytes}
use Rattle.orders.specs.Order.{order_of}
use Rattle.orders.specs.Packing.{packing}
use Rattle.orders.specs.Reading.{reading, kind_of, line_of, period_of}
use Rattle.gaplinte.specs.Answer.{answer_number, zero_value, numbers_or}

-- (Orders, 1) three bytes, and the numbers that they are
unfoldable pub bytes_in : List ℕ → Bytes
bytes_in order = record { 0 = get_or order 0 0; 1 = get_or order 1 0; 2 = get_or order 2 0 }

unfoldable pub byte_numbers : Bytes → List ℕ
byte_numbers b = b.0 ∷ b.1 ∷ b.2 ∷ []

-- (Orders, 3) Packing into three lent bytes: its answer, and the bytes, as found where packing is refused.
pub record PackServed (k L p : ℕ) (before after : List ℕ) (r : ℤ) : Type 0 where
  pub answer_is : r ≡ answer_number (zero_value (packing k L p))
  pub order_is : after ≡ numbers_or byte_numbers before (packing k L p)

-- (Orders, 2) kind, line and period of the call that an order stands for
unfoldable pub call_numbers : Call → List ℕ
call_numbers c = kind_of c ∷ line_of c ∷ period_of c ∷ []

-- (Orders, 3) Reading three bytes: its answer, and the three numbers lent, as found where reading is refused.
pub record ReadServed (order before after : List ℕ) (r : ℤ) : Type 0 where
  pub answer_is : r ≡ answer_number (zero_value (reading (order_of (bytes_in order))))
  pub call_is : after ≡ numbers_or call_numbers before (reading (order_of (bytes_in order)))
