-- An open, and before it the call for the reason at each class of each node (document 02, Ask 7): what the functions of src/asked.rt answer.
-- Assumes nothing.
use Rattle.std.specs.Prelude.{ℕ, ◌≡◌, ◌↔◌, Bool, true, false, not, eqb}
use Rattle.tree.specs.declared.Plan.{Plan}
use Rattle.tree.specs.Search.{all_below}
use Rattle.tree.specs.Tree.{Tree}
use Rattle.tree.specs.Reason.{Reason}
use Rattle.tree.specs.Refusals.{period_out_of_range}
use Rattle.tree.specs.Calls.{open_line, Answer, refused, answer, Outcome, gives, refuses, reason_outcome}
use Rattle.tree.specs.Explained.{EachHasReason}
use Rattle.tree.specs.Record.{tree_of}
use Rattle.history.specs.Explained.{PassesThree}

-- (Ask 7, 4) The call for the reason was refused with 12: no line stands in the class.
unfoldable pub refused_with_12 : Outcome Reason → Bool
refused_with_12 (gives r) = false
refused_with_12 (refuses n) = eqb n 12

-- For period p no class below 4095 is refused with 12 at the node of level l and offset r. A class that the node does not have is refused with 11.
unfoldable pub none_refused_at_node : ℕ → ℕ → ℕ → Tree → Bool
none_refused_at_node p l r t = all_below 4095 (λ i. not (refused_with_12 (reason_outcome p (record { level = l; offset = r }) i t)))

-- none at an offset below 4095 of this level
unfoldable pub none_refused_at_level : ℕ → ℕ → Tree → Bool
none_refused_at_level p l t = all_below 4095 (λ r. none_refused_at_node p l r t)

-- none at a level below 11: by `refused_12_within` no class of any node
unfoldable pub none_refused : ℕ → Tree → Bool
none_refused p t = all_below 11 (λ l. none_refused_at_level p l t)

-- (Ask 7, 3) An open of line L with period p on this plan answered a, and `each` is what the calls for the reason showed before it.
pub record OpenExplained (L p : ℕ) (plan : Plan) (a : Answer) (each : Bool) : Type 0 where
  -- both are those of the rules
  pub answer_is : a ≡ answer (open_line L p) (tree_of plan)
  pub asked : each ≡ none_refused p (tree_of plan)
  -- the calls showed whether each class of each node has a reason
  pub each_is : period_out_of_range p ≡ false → (each ≡ true) ↔ EachHasReason p (tree_of plan) (λ b i. reason_outcome p b i (tree_of plan))
  -- on a plan that is not empty an open that passes the checks 1, 2 and 3 is refused with 5 exactly when each has one
  pub refused_exactly : PassesThree L p (tree_of plan) → (a ≡ refused 5) ↔ (each ≡ true)
