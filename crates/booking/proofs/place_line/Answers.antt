use Rattle.booking.proofs.PlacedPath.{level_fits, next_level_fits, way_copied, placed_without, placed_with}
use Rattle.booking.proofs.place_line.Goals as goal

pub loop-k-init : goal.loop-k-init
loop-k-init c = record { level_fits = level_fits c.requires; way = c.clear_line.ensures }

pub loop-k-preserved : goal.loop-k-preserved
loop-k-preserved c = record {
  level_fits = c.loop-k.invariant.level_fits;
  way = way_copied c.requires c.told-rows c.args.line.below_64 c.loop-k-test.true c.loop-k.invariant.way c.row.ensures c.put_row.ensures;
}

pub put_row-requires-then-q-ne1 : goal.put_row-requires-then-q-ne1
put_row-requires-then-q-ne1 c = next_level_fits c.requires c.if-q-ne1.true

pub returns-then-q-ne1 : goal.returns-then-q-ne1
returns-then-q-ne1 c =
    rw (c.put_row-then-q-ne1.ensures, c.put_row-2.ensures)
    (placed_with c.requires c.told-rows c.args.line.below_64 c.loop-k.auto.k-end c.loop-k-test.false c.loop-k.invariant.way c.if-q-ne1.true)

pub returns-else-q-ne1 : goal.returns-else-q-ne1
returns-else-q-ne1 c =
    rw c.put_row-2.ensures
    (placed_without c.requires c.told-rows c.args.line.below_64 c.loop-k.auto.k-end c.loop-k-test.false c.loop-k.invariant.way c.if-q-ne1.false)
