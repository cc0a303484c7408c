-- Bits written into a lent buffer, one field behind the other (src/bytes.rt).
-- Assumes nothing.
use Rattle.std.specs.Prelude.{ℕ, ◌+◌, ◌*◌, ◌^◌, ◌<◌, ◌≤◌, ◌≡◌, List, ◌++◌, length, drop}
use Rattle.tree.specs.Bits.{bytes_for, bytes_of}

-- the bytes of these bits stand in front in the buffer, which is as it was behind them
abbrev pub Holds : List ℕ → List ℕ → List ℕ → Type 0
Holds bits before now = now ≡ bytes_of bits ++ drop (bytes_for (length bits)) before

-- Further bits were written behind the first `at` bits, whatever these are.
unfoldable pub Adds : ℕ → List ℕ → List ℕ → List ℕ → Type 0
Adds at more old new = (bits before : List ℕ) → length bits ≡ at → Holds bits before old → Holds (bits ++ more) before new

-- a field that fits, and has its place in a buffer of so many bytes
pub record Puttable (at width number room : ℕ) : Type 0 where
  pub some_bits : 0 < width
  pub at_most_16 : width ≤ 16
  pub number_fits : number < 2 ^ width
  pub has_room : at + width ≤ 8 * room
