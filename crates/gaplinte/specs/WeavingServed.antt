-- What weaving gives, for every two records (document 02, Ask 10).
-- Assumes nothing.
use Rattle.std.specs.Prelude.{ℕ, ◌≡◌, List, ℤ}
use Rattle.tree.specs.Weaving.{weave_outcome}
use Rattle.bridge.specs.Rows.{tree_of_rows, rows_given}
use Rattle.gaplinte.specs.Answer.{answer_number, zero_value}

-- (Ask 10, 2, 6) Two lent records woven into a third: the answer, and the third record after it, that of the woven tree, as found where the call is refused.
pub record WeaveServed (a b before after : List ℕ) (r : ℤ) : Type 0 where
  pub answer_is : r ≡ answer_number (zero_value (weave_outcome (tree_of_rows a) (tree_of_rows b)))
  pub rows_are : after ≡ rows_given (weave_outcome (tree_of_rows a) (tree_of_rows b)) before
