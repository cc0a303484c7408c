-- `plan::image::write_image` meets its contract: the record is a tree, or it is none and the image of the empty plan is written, which has the same tree.
-- Assumes nothing.
use mathlib.Core.Path.{sym, ◌∙◌, ap}
use lib.ListN.{length}
use Rattle.tree.specs.declared.Plan.{Plan}
use Rattle.tree.specs.Record.{legal}
use Rattle.paths.specs.Checked.{CheckedRecord}
use Rattle.plan.proofs.Changes.{empty_legal, empty_has_all}
use Rattle.plan.proofs.ImageCalls.{written_in_empty}
use Rattle.plan.proofs.image.write_image.Goals as goal

pub returns-in-Some : goal.returns-in-Some
unfolding CheckedRecord
returns-in-Some g c = rw (sym c.rows.ensures, sym c.in-Some.ensures) c.write_image.ensures

pub invariant_of-write_image : goal.invariant_of-write_image
invariant_of-write_image g c =
    record {
      is_legal = ap (λ (plan : Plan). legal plan.rows) c.empty-fresh.ensures ∙ empty_legal;
      has_all = ap (λ (plan : Plan). length plan.rows) c.empty-fresh.ensures ∙ empty_has_all;
    }

pub returns : goal.returns
unfolding CheckedRecord
returns g c = rw (sym c.rows.ensures) (written_in_empty _ c.in_default.ensures c.empty-fresh.ensures c.write_image-2.ensures)
