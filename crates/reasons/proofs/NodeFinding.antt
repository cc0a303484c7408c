-- The node at a level and an offset, found on the path of a line: its numbers, and whether a line's path goes through it (`through_node` of crate paths).
-- Assumes nothing.
use Prim.Native.Nat.{ℕ, ◌<◌, ◌≤◌}
use mathlib.Core.Path.{◌≡◌, ◌∙◌, ap}
use mathlib.Core.Bool.{true, false}
use mathlib.Core.List.{List}
use lib.Dec.{eqb}
use lib.ListN.{length, take}
use borrow.Author.Tests.{lt-ltb, le-ltb, eq-eqb, ne_eqb}
use Rattle.tree.specs.Tree.{product, sum}
use Rattle.tree.specs.Record.{path_at}
use Rattle.paths.specs.Rules.{Family, through_node}
use Rattle.paths.proofs.PathNumbers.{Carried}
use Rattle.candidates.specs.declared.spot.PathNode.{PathNode}
use Rattle.candidates.specs.SearchedTo.{NodeOf}

-- product and sum of the rows above the level are the step and the offset
pub carried_node : (rows : List ℕ) {node : PathNode} {k : ℕ} → Carried rows node.line.number node.step node.offset k → k ≡ node.level → node.level < length (path_at rows node.line.number) →
    NodeOf (path_at rows) node
carried_node rows {node} carried there below =
    record {
      on_path = below;
      step_is = carried.product_is ∙ ap (λ (n : ℕ). product (take n (path_at rows node.line.number))) there;
      offset_is = carried.sum_is ∙ ap (λ (n : ℕ). sum (take n (path_at rows node.line.number))) there;
    }

module _ (family : Family) (l r M : ℕ) where
  pub path_too_short : length (family M) ≤ l → through_node family l r M ≡ false
  unfolding through_node
  path_too_short short = rw (le-ltb l (length (family M)) short)

  module _ {node : PathNode} (node_of : NodeOf family node) (line_is : node.line.number ≡ M) (level_is : node.level ≡ l) where
    passes_by_offset : through_node family l r M ≡ eqb node.offset r
    unfolding through_node
    passes_by_offset =
        let long : l < length (family M) = rw (line_is, level_is) at node_of.on_path in
        let offset : node.offset ≡ sum (take l (family M)) = rw (line_is, level_is) at node_of.offset_is in
        rw (lt-ltb l (length (family M)) long, offset)

    pub through_this : node.offset ≡ r → through_node family l r M ≡ true
    through_this same = passes_by_offset ∙ eq-eqb node.offset r same

    pub through_another : (node.offset ≡ r → ⊥) → through_node family l r M ≡ false
    through_another other = passes_by_offset ∙ ne_eqb node.offset r other
