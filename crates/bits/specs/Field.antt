-- Fields of a number's bits.
-- Assumes nothing.
use Rattle.std.specs.Prelude.{ℕ, ◌+◌, ◌*◌, ◌/◌, ◌%◌, ◌^◌}

-- the field that is so many bits wide and has its lowest bit at a place
unfoldable pub field : ℕ → ℕ → ℕ → ℕ
field width place n = n / 2 ^ place % 2 ^ width

-- a number with so many further bits below it
unfoldable pub joined : ℕ → ℕ → ℕ → ℕ
joined width high low = high * 2 ^ width + low
