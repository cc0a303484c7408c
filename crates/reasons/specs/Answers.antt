-- What this crate's functions answer, in the terms of the rules and of the paths (crate paths, specs/Rules.antt).
-- Assumes nothing.
use Rattle.std.specs.Prelude.{ℕ, ◌≡◌, Option, None, Some}
use Rattle.tree.specs.Reason.{Reason, step_does_not_divide, line_stands}
use Rattle.paths.specs.Rules.{Family, line_through}
use Rattle.candidates.specs.declared.spot.PathNode.{PathNode}
use Rattle.candidates.specs.SearchedTo.{NodeOf}
use Rattle.reasons.specs.declared.Reason.{Reason as Told}
use Rattle.reasons.specs.declared.Reason.TheVariants.{StepDoesNotDivide, Line as LineInTheWay}

-- what the call told
unfoldable pub reason_told : Told → Reason
reason_told StepDoesNotDivide = step_does_not_divide
reason_told (LineInTheWay L) = line_stands L

-- the node at level l and offset r that was found on the path of the line of smallest number that goes through it, if any does
unfoldable pub NodeFound : Family → ℕ → ℕ → Option PathNode → Type 0
NodeFound family l r None = line_through family l r ≡ None
NodeFound family l r (Some node) = (line_through family l r ≡ Some node.line.number) × NodeOf family node × (node.level ≡ l)
