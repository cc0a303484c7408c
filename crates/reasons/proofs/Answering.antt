-- The ways that the call can answer at a node (`reason_on_path` of crate paths, specs/Rules.antt), and over a record.
-- Assumes nothing.
use Rattle.std.specs.Prelude.{Option, None, Some}
use Prim.Native.Nat.{ℕ, ◌/◌, ◌<◌, ◌≤◌}
use mathlib.Core.Path.{◌≡◌}
use mathlib.Core.Bool.{true, false}
use mathlib.Core.List.{List}
use borrow.Author.Tests.{lt-ltb, le-ltb}
use Rattle.tree.specs.Numbers.{divides, gcd}
use Rattle.tree.specs.Reason.{Reason, step_does_not_divide}
use Rattle.tree.specs.Refusals.{period_out_of_range}
use Rattle.tree.specs.Calls.{Outcome, gives, refuses, reason_outcome}
use Rattle.tree.specs.Record.{row_at, path_at, legal}
use Rattle.paths.specs.Rules.{line_through, line_of_class, line_or_12, reason_with, reason_on_path, reason_on_paths}
use Rattle.bridge.specs.Rows.{tree_of_rows}
use Rattle.bridge.proofs.ReasonOnPaths.{reason_on_record}
use Rattle.candidates.specs.declared.spot.PathNode.{PathNode}
use Rattle.candidates.specs.SearchedTo.{NodeOf}
use Rattle.candidates.proofs.NodeNumbers.{divisor_is}
use Rattle.reasons.specs.Answers.{NodeFound}

module _ (rows : List ℕ) {node : PathNode} (node_of : NodeOf (path_at rows) node) (p i : ℕ) where
  pub undivided : divides node.step p ≡ false → gives step_does_not_divide ≡ reason_on_path (path_at rows) p node.line.number node.level i
  unfolding reason_on_path reason_with
  undivided other = rw (← node_of.step_is, other)

  -- w was read as the node's weight, and d is its divisor
  module _ {w d : ℕ} (divided : divides node.step p ≡ true) (read : w ≡ (row_at rows node.line.number node.level).weight) (common : d ≡ gcd w (p / node.step)) where
    pub beyond_classes : d ≤ i → refuses 11 ≡ reason_on_path (path_at rows) p node.line.number node.level i
    unfolding reason_on_path reason_with
    beyond_classes large = rw (← node_of.step_is, divided, divisor_is rows node_of p divided read common, le-ltb i d large)

    pub of_class_found : i < d → {o : Option ℕ} → o ≡ line_of_class (path_at rows) (path_at rows node.line.number) node.level d i → line_or_12 o ≡ reason_on_path (path_at rows) p node.line.number node.level i
    unfolding reason_on_path reason_with
    of_class_found small found_is = rw (← node_of.step_is, divided, divisor_is rows node_of p divided read common, lt-ltb i d small, found_is)

-- At a level and an offset of a legal record

module _ (rows : List ℕ) (is_legal : legal rows ≡ true) (p l r i : ℕ) where
  abbrev answered : Outcome Reason
  answered = reason_outcome p (record { level = l; offset = r }) i (tree_of_rows rows)

  pub out_of_range : period_out_of_range p ≡ true → refuses 2 ≡ answered
  unfolding reason_on_paths
  out_of_range out = rw out at (reason_on_record rows is_legal p l r i)

  pub no_node : period_out_of_range p ≡ false → line_through (path_at rows) l r ≡ None → refuses 10 ≡ answered
  unfolding reason_on_paths
  no_node inside none = rw (inside, none) at (reason_on_record rows is_legal p l r i)

  -- where a node was found, the answer is that at the node
  pub at_node : period_out_of_range p ≡ false → (node : PathNode) → NodeFound (path_at rows) l r (Some node) →
      reason_on_path (path_at rows) p node.line.number node.level i ≡ answered
  unfolding reason_on_paths NodeFound
  at_node inside node found = rw found.2 (rw (inside, found.0) at (reason_on_record rows is_legal p l r i))
