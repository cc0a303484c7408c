-- Texts of ASCII characters as bytes.
-- Assumes nothing.
use Rattle.std.specs.Prelude.{ℕ}
use Prim.Native.Char.{code}
use Prim.Native.String.{String, [], ◌∷◌}
use mathlib.Core.List as list

-- the codes of a text's characters
unfoldable pub ascii : String → list.List ℕ
ascii [] = list.[]
ascii (c ∷ text) = list.◌∷◌ (code c) (ascii text)
