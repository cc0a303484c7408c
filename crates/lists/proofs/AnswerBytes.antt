-- The two bytes of an answer's word (specs/Lists.antt).
-- Assumes nothing.
use Prim.Native.Nat.{ℕ, ◌/◌, ◌%◌}
use native.Mathlib.Nat.{div-one}
use mathlib.Core.Path.{◌≡◌}
use mathlib.Core.List.{[], ◌∷◌}
use Rattle.tree.specs.Calls.{Answer}
use Rattle.bits.specs.Field.{field}
use Rattle.lists.specs.Lists.{answer_word, high_byte, low_byte}

pub bytes_of_word : (word : ℕ) (a : Answer) → word ≡ answer_word a → (word / 256 % 256 ∷ word % 256 ∷ []) ≡ (high_byte a ∷ low_byte a ∷ [])
unfolding high_byte low_byte field
bytes_of_word word a is_word = rw (is_word, div-one (answer_word a))
