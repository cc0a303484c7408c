-- The number of an answer, read from its bits, and a test as a number.
-- Assumes nothing.
use Rattle.std.specs.Prelude.{if◌then◌else◌}
use Prim.Native.Nat.{ℕ}
use mathlib.Core.Path.{◌≡◌, refl, ◌∙◌}
use mathlib.Core.Bool.{Bool, true, false}
use lib.IntN.{ℤ}
use mir.Syntax.{w64}
use mir.Val.{bool_byte, to_z, of_z}
use mir.ValLaws.{to_z-of_z}
use Rattle.tree.specs.Calls.{Outcome}
use Rattle.gaplinte.specs.Answer.{answer_number, IsAnswer}

-- an answer that a function hands on is read from its bits
pub answer_read_back : (o : Outcome ℕ) (r : ℤ) → IsAnswer o r → to_z w64 (of_z w64 r) ≡ answer_number o
answer_read_back o r is = to_z-of_z w64 r is.fits ∙ is.number_is

-- a test as a number
pub one_if : (b : Bool) → bool_byte b ≡ (if b then 1 else 0)
one_if true = refl
one_if false = refl
