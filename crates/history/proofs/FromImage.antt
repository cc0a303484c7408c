-- Demand 3 of lists that begin at a plan that was read from an image (specs/FromImage.antt): the plan has the image's tree, which is legal.
-- Assumes nothing.
use mathlib.Core.Path.{◌≡◌}
use mathlib.Core.List.{List}
use Prim.Native.Nat.{ℕ}
use Rattle.tree.specs.Tree.{Tree}
use Rattle.tree.specs.Calls.{gives}
use Rattle.tree.specs.ImageReading.{read_outcome}
use Rattle.bridge.specs.Rows.{tree_of_rows, rows_given}
use Rattle.bridge.proofs.RecordRoundTrip.{record_has_tree}
use Rattle.images.proofs.ReadsExactly.{tree_read_legal}
use Rattle.history.specs.FromPlan.{FromPlanOfCalls, FromPlanOfRows, FromPlanOfLibrary}
use Rattle.history.specs.OrdersRun.{FromPlanOfLists}
use Rattle.history.specs.FromImage.{FromImageOfCalls, FromImageOfRows, FromImageOfLibrary, FromImageOfLists}
use Rattle.history.proofs.FromPlan.{from_plan_of_calls, from_plan_of_rows, from_plan_of_library}
use Rattle.history.proofs.Demand3OfLists.{from_plan_of_lists}

module _ (bytes : List ℕ) (t : Tree) (read : read_outcome bytes ≡ gives t) where
  -- the record that was read into has the image's tree
  tree_read_in : (before first : List ℕ) → first ≡ rows_given (read_outcome bytes) before → tree_of_rows first ≡ t
  unfolding tree_of_rows rows_given
  tree_read_in before first rows_are = rw (rows_are, read) (record_has_tree t (tree_read_legal bytes t read))

pub from_image_of_calls : FromImageOfCalls
unfolding FromImageOfCalls FromPlanOfCalls tree_of_rows
from_image_of_calls bytes t read before first a was_read entries last ran =
    rw (tree_read_in bytes t read before.rows first.rows was_read.rows_are) at (from_plan_of_calls entries first last ran)

pub from_image_of_rows : FromImageOfRows
unfolding FromImageOfRows FromPlanOfRows
from_image_of_rows bytes t read before first a was_read entries last ran =
    rw (tree_read_in bytes t read before first was_read.rows_are) at (from_plan_of_rows entries first last ran)

pub from_image_of_library : FromImageOfLibrary
unfolding FromImageOfLibrary FromPlanOfLibrary
from_image_of_library bytes t read before first r was_read calls last ran =
    rw (tree_read_in bytes t read before first was_read.rows_are) at (from_plan_of_library calls first last ran)

pub from_image_of_lists : FromImageOfLists
unfolding FromImageOfLists FromPlanOfLists tree_of_rows
from_image_of_lists bytes t read before first a was_read orders lent after written ran =
    rw (tree_read_in bytes t read before.rows first.rows was_read.rows_are) at (from_plan_of_lists first orders lent after written ran)
