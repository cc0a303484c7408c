-- Numbers as bits, and bits as bytes (document 02, Ask 9): the most significant bit of each field first, eight to a byte.
-- Assumes nothing.
use Rattle.std.specs.Prelude.{ℕ, zero, suc, ◌+◌, ◌*◌, ◌/◌, ◌%◌, ◌^◌, List, [], ◌∷◌, ◌++◌, length, get_or}
use Rattle.tree.specs.Search.{each_below}

-- (Ask 9, 2) A field: so many bits of a number, the most significant first.
unfoldable pub field_bits : ℕ → ℕ → List ℕ
field_bits zero n = []
field_bits (suc k) n = n / 2 ^ k % 2 ∷ field_bits k n

-- the number that so many bits from a place on are, the most significant first; behind the last bit there are zeros
unfoldable pub number_at : ℕ → ℕ → List ℕ → ℕ
number_at zero at bits = 0
number_at (suc k) at bits = 2 * number_at k at bits + get_or bits (at + k) 0

-- the bytes that hold so many bits
unfoldable pub bytes_for : ℕ → ℕ
bytes_for count = (count + 7) / 8

-- (Ask 9, 2) The bytes of bits, eight to a byte. Zero bits fill the last one.
unfoldable pub bytes_of : List ℕ → List ℕ
bytes_of bits = each_below (bytes_for (length bits)) (λ k. number_at 8 (8 * k) bits)

-- the bits of bytes
unfoldable pub bits_of : List ℕ → List ℕ
bits_of [] = []
bits_of (b ∷ bs) = field_bits 8 b ++ bits_of bs
