-- `bits::join` meets its contract: a shift up and an or put bits below, at every width.
-- Assumes nothing.
use Rattle.bits.proofs.FieldLaws.{shift_and_or}
use Rattle.bits.proofs.join.Goals as goal

pub returns : goal.returns
returns c = shift_and_or 64 c.args.width c.args.high c.args.low c.requires.0.1 c.requires.1
