-- `lines::book_at` meets its contract: what is split and placed is the booking at the spot.
-- Assumes nothing.
use native.Mathlib.Omega.{arith}
use mathlib.Core.Path.{refl}
use Rattle.paths.specs.Rules.{spot_start}
use Rattle.bridge.proofs.CallsOnRecords.{open_booked_on}
use Rattle.lines.proofs.OpenLine.{product_fits, product_not_zero, spot_splittable, spot_placeable, placed_is_booked}
use Rattle.lines.proofs.book_at.Goals as goal

pub overflow_mul-quotient : goal.overflow_mul-quotient
overflow_mul-quotient c = omega (arith, product_fits _ _ _ _ c.requires c.told-rows)

pub nonzero_div-quotient : goal.nonzero_div-quotient
nonzero_div-quotient c = product_not_zero _ _ _ _ c.requires c.told-rows

pub split_if_smaller-requires : goal.split_if_smaller-requires
split_if_smaller-requires c = spot_splittable _ _ _ _ c.requires c.told-rows

pub place_line-requires : goal.place_line-requires
place_line-requires c = rw c.split_if_smaller.ensures (spot_placeable _ _ _ _ c.requires c.told-rows _ refl)

pub returns : goal.returns
unfolding spot_start
returns c =
    let ready = c.requires.bookable in
    rw (c.place_line.ensures, c.split_if_smaller.ensures, placed_is_booked _ _ _ _ c.requires c.told-rows _ refl)
    (rw (← c.start.ensures) at (open_booked_on _ ready.is_legal c.told-rows _ _ ready.number ready.inside ready.absent _ c.requires.found_one))
