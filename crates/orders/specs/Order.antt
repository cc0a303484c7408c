-- One order (document 01, section Orders): a number of 24 bits, which are those of its three bytes, most significant first.
-- Assumes nothing.
use Rattle.std.specs.Prelude.{ℕ}
use Rattle.orders.specs.declared.Bytes.{Bytes}
use Rattle.orders.specs.declared.OrderFields.{OrderFields}
use Rattle.bits.specs.Field.{field, joined}

-- (Orders, 1) the order that three bytes are
unfoldable pub order_of : Bytes → ℕ
order_of b = joined 8 (joined 8 b.0 b.1) b.2

-- (Orders, 1) the three bytes of an order
unfoldable pub bytes_of : ℕ → Bytes
bytes_of n = record { 0 = field 8 16 n; 1 = field 8 8 n; 2 = field 8 0 n }

-- (Orders, 1) The fields, most significant bit first: kind 2 bits, line 6, period 12, filler 4.
unfoldable pub kind : ℕ → ℕ
kind n = field 2 22 n

unfoldable pub line : ℕ → ℕ
line n = field 6 16 n

unfoldable pub period : ℕ → ℕ
period n = field 12 4 n

unfoldable pub filler : ℕ → ℕ
filler n = field 4 0 n

-- the four of them, in the code's record
unfoldable pub fields_of : ℕ → OrderFields
fields_of n = record { kind = kind n; line = line n; period = record { 0 = period n }; filler = filler n }

-- the order with a kind, a line and a period, and filler 0
unfoldable pub order_with : ℕ → ℕ → ℕ → ℕ
order_with k L p = joined 4 (joined 12 (joined 6 k L) p) 0
