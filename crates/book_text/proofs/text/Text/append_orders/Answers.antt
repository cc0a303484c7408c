-- So many lines are written: none, one more, all (`Printing`).
-- Assumes nothing.
use Rattle.std.proofs.Common.{arith}
use Rattle.book_text.proofs.OrdersPrinted.{printing_none, next_fits, printing_more, printing_all}
use Rattle.book_text.proofs.text.Text.append_orders.Goals as goal

pub loop-k-init : goal.loop-k-init
loop-k-init c = printing_none _ _ _ c.requires.answered

pub append_order-requires : goal.append_order-requires
append_order-requires c =
    rw (c.as_chunks.ensures.front, c.as_chunks-2.ensures.front)
    (next_fits _ _ _ c.requires.answered _ _ c.loop-k.invariant (omega arith) c.requires.has_room)

pub loop-k-preserved : goal.loop-k-preserved
loop-k-preserved c =
    printing_more _ _ _ c.requires.answered _ _ c.loop-k.invariant (omega arith) _
    (rw (c.as_chunks.ensures.front, c.as_chunks-2.ensures.front) at c.append_order.ensures)

pub returns : goal.returns
returns c = printing_all _ _ _ c.requires.answered _ _ c.loop-k.invariant (omega arith)
