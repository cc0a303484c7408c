-- What the calls open and close promise, for every plan record, every line number and every period.
-- Assumes nothing.
use Rattle.std.specs.Prelude.{ℕ, ◌≡◌, Option, None, Some}
use Rattle.tree.specs.declared.Plan.{Plan}
use Rattle.tree.specs.Tree.{nothing}
use Rattle.tree.specs.Calls.{Call, Answer, refusal, carried_out, answer}
use Rattle.tree.specs.Record.{tree_of, record_of}

-- the empty plan
unfoldable pub empty_plan : Plan
empty_plan = record_of nothing

unfoldable pub plan_unless : Option ℕ → Plan → Plan → Plan
plan_unless (Some n) before after = before
plan_unless None before after = after

-- the plan after a call: the record of the tree that the rules leave or, where the call is refused, the record handed in, as found
unfoldable pub plan_after : Call → Plan → Plan
plan_after c plan = plan_unless (refusal c (tree_of plan)) plan (record_of (carried_out c (tree_of plan)))

-- a call on a plan gave this answer and this plan: both are those of the rules
pub record Meets (c : Call) (plan : Plan) (a : Answer) (after : Plan) : Type 0 where
  pub answer_is : a ≡ answer c (tree_of plan)
  pub plan_is : after ≡ plan_after c plan
