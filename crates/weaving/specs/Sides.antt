-- The woven record, side by side: the lines of one plan written with their woven paths, then those of the other.
-- Assumes nothing.
use Rattle.std.specs.Prelude.{ℕ, ◌≡◌, not, List, Result}
use Rattle.tree.specs.declared.Plan.{Plan}
use Rattle.tree.specs.declared.refusal.Refusal.{Refusal}
use Rattle.tree.specs.Answered.{outcome_of}
use Rattle.tree.specs.Record.{no_rows}
use Rattle.tree.specs.Weaving.{weave_outcome, woven_path}
use Rattle.bridge.specs.Rows.{tree_of_rows, plan_given}
use Rattle.paths.specs.Rules.{Family, set_lines}

-- the record with the lines below n of a family written into it, each open one with its woven path on side e
abbrev pub with_side : List ℕ → Family → ℕ → ℕ → List ℕ
with_side rows family e = set_lines rows (λ M. not (no_rows (family M))) (λ M. woven_path e (family M))

-- (Ask 10, 2, 6) Two plans were woven: what weaving answered is the plan with the woven tree, or the refusal. Beside a refusal no plan stands.
unfoldable pub PlansWoven : List ℕ → List ℕ → Result Plan Refusal → Type 0
PlansWoven a b answer = outcome_of (λ plan. plan) answer ≡ plan_given (weave_outcome (tree_of_rows a) (tree_of_rows b))
