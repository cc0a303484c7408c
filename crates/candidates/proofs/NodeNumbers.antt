-- The node at a level of a line's path in a legal record (`NodeOf`, specs/SearchedTo.antt): its numbers are in range.
-- Assumes nothing.
use Rattle.std.specs.Prelude.{Some, option_map}
use Prim.Native.Nat.{ℕ, zero, suc, ◌+◌, ◌*◌, ◌/◌, ◌<◌, ◌≤◌}
use native.Mathlib.Omega.{arith}
use native.Mathlib.Nat.{mul-le-mul_left}
use mathlib.Core.Path.{◌≡◌, refl, sym, ◌∙◌, ap}
use mathlib.Core.Logic.{inl, inr}
use mathlib.Core.Bool.{true}
use mathlib.Core.List.{List, [], ◌∷◌}
use lib.ListN.{length, take}
use Rattle.tree.specs.declared.Row.{Row}
use Rattle.tree.specs.Numbers.{divides, gcd}
use Rattle.tree.specs.Tree.{row, product}
use Rattle.tree.specs.Opening.{divisor}
use Rattle.tree.specs.Record.{row_at, path_at, legal}
use Rattle.paths.specs.Rules.{row_of, class_on_path, Spot, spot_start, spot_with, spot_at}
use Rattle.paths.proofs.LegalLines.{legal_in_range}
use Rattle.paths.proofs.PathNumbers.{Carried, carried_row, carried_below, carried_small}
use Rattle.paths.proofs.PathRows.{row_in_path, weight_read}
use Rattle.paths.proofs.RangeLaws.{alone_or_in_range, weight_at_least_2}
use Rattle.candidates.specs.declared.spot.PathNode.{PathNode}
use Rattle.candidates.specs.SearchedTo.{NodeOf}
use Rattle.candidates.proofs.Spots.{offer_past_edge_0}

root_alone : (rs : List Row) → rs ≡ row 1 0 ∷ [] → (k : ℕ) → k < length rs → product (take k rs) ≡ 1
unfolding product
root_alone rs alone zero there = refl
root_alone rs alone (suc k) there = let one : length rs ≡ 1 = rw alone refl in absurd (omega arith)

module _ (rows : List ℕ) {node : PathNode} (node_of : NodeOf (path_at rows) node) where
  pub carried : Carried rows node.line.number node.step node.offset node.level
  carried = record { within = omega (arith, node_of.on_path); product_is = node_of.step_is; sum_is = node_of.offset_is }

  module _ (is_legal : legal rows ≡ true) (line_below : node.line.number < 64) where
    pub step_positive : 0 < node.step
    step_positive = omega (arith, carried_below carried is_legal line_below)

    -- the sum of offset and step is in range too
    pub offset_and_step : node.offset + node.step ≤ 8190
    offset_and_step = omega (arith, carried_below carried is_legal line_below, carried_small carried is_legal line_below)

    -- only the root is alone with a weight of 1, and its offset is 0
    pub offset_small : node.offset < 2047
    offset_small =
        elim (alone_or_in_range (path_at rows node.line.number) (legal_in_range rows is_legal node.line.number line_below)) [
          | inl alone ↦ omega (arith, carried_below carried is_legal line_below, node_of.step_is, root_alone (path_at rows node.line.number) alone node.level node_of.on_path)
          | inr in_range ↦
              let weight = (row_at rows node.line.number node.level).weight in
              let two : 2 ≤ weight = rw (← row_in_path rows node.line.number node_of.on_path) (weight_at_least_2 (path_at rows node.line.number) in_range node.level node_of.on_path) in
              let next : node.step * weight ≤ 4095 = (carried_small (carried_row carried node_of.on_path refl refl) is_legal line_below).0 in
              let doubled : node.step * 2 ≤ node.step * weight = mul-le-mul_left node.step two in
              omega (arith, doubled, next, carried_below carried is_legal line_below)
        ]

-- w was read as the node's weight, and d is its divisor: what the node offers
module _ (rows : List ℕ) {node : PathNode} (node_of : NodeOf (path_at rows) node) (p : ℕ) {w d : ℕ} (divided : divides node.step p ≡ true) (read : w ≡ (row_at rows node.line.number node.level).weight) (common : d ≡ gcd w (p / node.step)) where
  pub divisor_is : divisor p node.step (row_of node.level (path_at rows node.line.number)).weight ≡ d
  unfolding divisor
  divisor_is = rw (weight_read rows node.line.number node_of.on_path read) (sym common)

  pub offered :
      spot_at (path_at rows) p node.line.number node.level
      ≡ option_map (λ i. record { line = node.line.number; level = node.level; offset = node.offset; step = node.step; divisor = d; class = i }) (class_on_path (path_at rows) (path_at rows node.line.number) node.level d)
  unfolding spot_at spot_with
  offered = rw (← node_of.step_is, ← node_of.offset_is, divided, divisor_is)

-- e was read as the edge that the line takes at the node, and is 0: nothing is offered before offset + step
module _ (rows : List ℕ) {node : PathNode} (node_of : NodeOf (path_at rows) node) (line_below : node.line.number < 64) (p : ℕ) {e : ℕ} (read : e ≡ (row_at rows node.line.number node.level).edge) (edge_0 : e ≡ 0) where
  pub past_edge_0 : (s : Spot) → spot_at (path_at rows) p node.line.number node.level ≡ Some s → node.offset + node.step ≤ spot_start s
  past_edge_0 s offer =
      let taken : (row_of node.level (path_at rows node.line.number)).edge ≡ 0 = ap (λ (r : Row). r.edge) (row_in_path rows node.line.number node_of.on_path) ∙ sym read ∙ edge_0 in
      rw (node_of.offset_is, node_of.step_is) (offer_past_edge_0 (path_at rows) p node.line.number node.level line_below node_of.on_path taken s offer)
