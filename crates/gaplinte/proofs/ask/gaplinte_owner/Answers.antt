-- `gaplinte::ask::gaplinte_owner` meets its contract, by that of `plan::ask::owner`: a line and a rest are small.
-- Assumes nothing.
use native.Mathlib.Omega.{arith}
use Rattle.tree.specs.Answered.{outcome_of}
use Rattle.bridge.proofs.TreeOfRecord.{legal_on_record}
use Rattle.gaplinte.specs.Served.{owner_outcome}
use Rattle.gaplinte.proofs.Answering.{answer_read_back}
use Rattle.gaplinte.proofs.ValuesBelow.{owner_given}
use Rattle.gaplinte.proofs.ask.gaplinte_owner.Goals as goal

pub number-requires : goal.number-requires
number-requires c = omega (arith, owner_given _ _ _ (legal_on_record _) c.owner.ensures)

pub returns : goal.returns
unfolding owner_outcome outcome_of
returns c = rw (answer_read_back _ _ c.number.ensures, c.owner_value.ensures, c.owner.ensures)
