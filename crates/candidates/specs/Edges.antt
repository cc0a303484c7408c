-- The present edges of a node, marked in words of 64 bits, and the lines that are looked at for them.
-- Assumes nothing.
use Rattle.std.specs.Prelude.{ℕ, suc, ◌/◌, ◌%◌, ◌^◌, ◌<◌, ◌≤◌, ◌≡◌, Bool, true, false, List, eqb, length, get_or, set}
use Rattle.std.specs.Int.Bits.{bit_or}
use Rattle.tree.specs.declared.Row.{Row}
use Rattle.tree.specs.Search.{found}
use Rattle.tree.specs.Record.{path_at, no_rows}
use Rattle.paths.specs.Rules.{Family, same_node, line_under}

-- edge e is marked: bit e % 64 of word e / 64 is set
unfoldable pub marked : List ℕ → ℕ → Bool
marked words e = eqb (get_or words (e / 64) 0 / 2 ^ (e % 64) % 2) 1

-- the words with edge e marked as well: the bit is set by an or
unfoldable pub with_mark : List ℕ → ℕ → List ℕ
with_mark words e = set words (e / 64) (bit_or (get_or words (e / 64) 0) (2 ^ (e % 64)))

-- edge e of the node at level l of path ps is present: a line takes it
unfoldable pub edge_present : Family → List Row → ℕ → ℕ → Bool
edge_present family ps l e = found (line_under family ps l e)

-- marked are exactly the present edges
pub record MarksPresent (family : Family) (ps : List Row) (l : ℕ) (words : List ℕ) : Type 0 where
  pub each : (e : ℕ) → marked words e ≡ edge_present family ps l e

-- the lines from `end` on are closed
pub record ClosedFrom (rows : List ℕ) (end : ℕ) : Type 0 where
  pub within : end ≤ 64
  pub closed : (M : ℕ) → end ≤ M → M < 64 → no_rows (path_at rows M) ≡ true

-- and the one before is open: `end` is one more than the largest number of an open line, or 0 where none is open
pub record EndOfLines (rows : List ℕ) (end : ℕ) : Type 0 where
  pub closed_from : ClosedFrom rows end
  pub last_open : (M : ℕ) → end ≡ suc M → no_rows (path_at rows M) ≡ false

-- line L is the first whose path goes through the node at level l of its path
pub record FirstThrough (rows : List ℕ) (L l : ℕ) : Type 0 where
  pub on_path : l < length (path_at rows L)
  pub first : (M : ℕ) → M < L → same_node l (path_at rows M) (path_at rows L) ≡ false
