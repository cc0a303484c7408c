-- `plan::ask::owner` meets its contract: the record is no tree, the walk finds a line, or it finds none and the rest is counted.
-- Assumes nothing.
use native.Mathlib.Nat.{add-zero}
use mathlib.Core.Path.{sym, ◌∙◌}
use Rattle.tree.proofs.Resting.{owned_exactly, idle_exactly}
use Rattle.paths.specs.Checked.{CheckedRecord}
use Rattle.bridge.proofs.AskingRecords.{owner_on_illegal, owner_on_record}
use Rattle.plan.specs.Ask.{owner_answer}
use Rattle.plan.proofs.ask.owner.Goals as goal

pub returns-in_default : goal.returns-in_default
unfolding owner_answer CheckedRecord
returns-in_default g c = rw (sym c.rows.ensures) (sym (owner_on_illegal _ c.in_default.ensures _))

pub returns-in-Some-owner_of : goal.returns-in-Some-owner_of
unfolding owner_answer CheckedRecord
returns-in-Some-owner_of g c =
    let found = rw add-zero at (c.in-Some-owner_of.ensures ∙ owner_on_record _ c.in-Some.tree.is_legal _) in
    rw (sym c.rows.ensures, sym c.in-Some.ensures) (sym ((owned_exactly _ _ _).1 (sym found)))

pub returns-in-None : goal.returns-in-None
unfolding owner_answer CheckedRecord
returns-in-None g c =
    let idle = rw add-zero at (c.in-None.ensures ∙ owner_on_record _ c.in-Some.tree.is_legal _) in
    rw (sym c.rows.ensures, sym c.in-Some.ensures) (sym ((idle_exactly _ _ _).1 (sym idle, sym c.rest_of.ensures)))
