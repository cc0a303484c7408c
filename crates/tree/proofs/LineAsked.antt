-- What a line's number of any size says of the line that was asked for.
-- Assumes nothing.
use Prim.Native.Nat.{ℕ, ◌<◌}
use mathlib.Core.Path.{◌≡◌}
use Rattle.std.specs.Prelude.{Ok, Err}
use borrow.Author.Tests.{ltb-true}
use Rattle.tree.specs.declared.line.Line.{Line}
use Rattle.tree.specs.declared.refusal.Refusal.{Refusal}
use Rattle.tree.specs.Refusals.{line_above_63}
use Rattle.tree.specs.Answered.{number_of, LineOrRefusal}

pub line_accepted : (n : ℕ) (line : Line) → LineOrRefusal n (Ok line) → line.number ≡ n
unfolding LineOrRefusal
line_accepted n line h = h.0

-- the one refusal has number 1, and the line is above 63
pub line_refused : (n : ℕ) (r : Refusal) → LineOrRefusal n (Err r) → (number_of r ≡ 1) × (63 < n)
unfolding LineOrRefusal line_above_63 number_of
line_refused n r h = (rw h.0, ltb-true 63 n h.1)
