-- `asking::sheet::line_turns` meets its contract: a closed line has no turns, and those of an open one are found from its times.
-- Assumes nothing.
use Prim.Native.Nat.{◌≤◌}
use native.Mathlib.Omega.{arith}
use mathlib.Core.Path.{◌≡◌, sym, ◌∙◌}
use Rattle.tree.specs.Sheet.{line_turns}
use Rattle.bridge.specs.Rows.{tree_of_rows}
use Rattle.asking.proofs.SheetFigures.{turns_of_closed, turns_of_open}
use Rattle.asking.proofs.sheet.line_turns.Goals as goal
use Rattle.asking.proofs.sheet.line_turns.Goals.{After-turns}

-- They are the turns of the line, and no more than the rounds.
counted : (c : After-turns) → (c.turns.result ≡ line_turns c.args.line.number c.args.first c.args.rounds (tree_of_rows c.args.tree.rows.now)) × (c.turns.result ≤ c.args.rounds)
counted c =
    turns_of_open _ c.args.tree.is_legal _ c.args.line.below_64 _ _ (sym c.is_closed.ensures ∙ c.if-is_closed.false) c.times_of.ensures.0 c.times_of.ensures.1 c.turns.ensures

pub returns-then-is_closed : goal.returns-then-is_closed
returns-then-is_closed c = turns_of_closed _ c.args.tree.is_legal _ c.args.line.below_64 _ _ (sym c.is_closed.ensures ∙ c.if-is_closed.true)

pub overflow_cast-result : goal.overflow_cast-result
overflow_cast-result c = omega (arith, (counted (goal.at.overflow_cast-result c).After-turns).1)

pub returns : goal.returns
returns c = (counted (goal.at.returns c).After-turns).0
