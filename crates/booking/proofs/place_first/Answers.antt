-- `booking::place_first` meets its contract: a row is added to the cleared line.
-- Assumes nothing.
use native.Mathlib.Omega.{arith}
use mathlib.Core.Path.{refl}
use mathlib.Core.List.{[]}
use Rattle.booking.proofs.SetLine.{set_line_added}
use Rattle.booking.proofs.place_first.Goals as goal

pub returns : goal.returns
returns c = rw (c.put_row.ensures, c.clear_line.ensures) (set_line_added _ c.told-rows _ c.args.line.below_64 [] 0 refl (omega arith) _)
