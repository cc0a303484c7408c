-- `asking::walk` meets its contract: the walk over the paths, one node at a time. That the child is visited too (`visits_child`) is what its call of itself requires.
-- What its numbers need holds of the root's weight too, and of any round: so a version that reads that weight, or divides another number, is refused for
-- its answer.
-- Assumes nothing.
use Prim.Native.Nat.{ℕ, ◌+◌, ◌*◌, ◌/◌, ◌%◌, ◌^◌, ◌<◌, ◌≤◌}
use native.Mathlib.Nat.{mod-lt, le_of_lt, mul-pos, mul_comm, mul-le-mul, div-lt_iff_lt-mul, div-div-eq-div-mul}
use native.Mathlib.Omega.{arith}
use mathlib.Core.Path.{◌≡◌, sym, ◌∙◌, ap}
use mathlib.Core.List.{List}
use Rattle.std.specs.Prelude.{Option, Some}
use Rattle.tree.specs.Record.{row_at, path_at}
use Rattle.bridge.specs.Rows.{tree_of_rows}
use Rattle.paths.proofs.PathRows.{within_path}
use Rattle.paths.specs.Rules.{line_under, walk_on_paths}
use Rattle.asking.specs.Visits.{Visits}
use Rattle.tree.proofs.Digits.{digit_between}
use Rattle.bridge.proofs.TreeOfRecord.{legal_on_record}
use Rattle.asking.proofs.Walking.{line_under_within, weight_above_0, walk_over, walk_idle, walk_to_line, walk_to_node}
use Rattle.asking.proofs.Visiting.{step_positive, visits_within, visits_child}
use Rattle.asking.proofs.+walk.Goals as goal
use Rattle.asking.proofs.+walk.Goals.{In_ok-next}

-- the node at level l of line M's path is visited
module _ (rows : List ℕ) {M l m n : ℕ} (here : Visits (tree_of_rows rows) M l m n) where
  level_below_11 : l < 11
  level_below_11 = within_path rows M (visits_within rows here).2

  step_above_0 : 0 < m
  step_above_0 = step_positive (tree_of_rows rows) (legal_on_record rows) here

  -- w was read as the weight of the node, or of one above it
  module _ {k w : ℕ} (up_to : k ≤ l) (read : w ≡ (row_at rows M k).weight) where
    weight_positive : 0 < w
    weight_positive = weight_above_0 rows M (omega (arith, (visits_within rows here).2)) read

    -- a step of 2,047 at most and a weight of 16 bits have a product of 32 bits
    child_step_in_range : w < 2 ^ 16 → (0 < m * w) × (m * w < 2 ^ 32)
    child_step_in_range small = (mul-pos step_above_0 weight_positive, omega (arith, mul-le-mul here.step_at_most (le_of_lt small)))

    edge_in_range : w < 2 ^ 16 → (a : ℕ) {r : ℕ} → r ≡ a % (m * w) → r / m < 2 ^ 16
    edge_in_range small a {r} is_remainder =
        let below : r < m * w = rw is_remainder (mod-lt a (mul-pos step_above_0 weight_positive)) in
        let quotient_below : r / m < w = (div-lt_iff_lt-mul step_above_0).1 (omega (arith, mul_comm m w)) in
        omega arith

  -- w was read as the node's weight: under the edge that the round selects is what was found under the edge that was computed
  selected : {w r : ℕ} → w ≡ (row_at rows M l).weight → r ≡ n % (m * w) → {o : Option ℕ} → o ≡ line_under (path_at rows) (path_at rows M) l (r / m) → line_under (path_at rows) (path_at rows M) l (n / m % w) ≡ o
  selected {w} read is_remainder found =
      rw (← digit_between n m w step_above_0 (weight_positive (omega arith) read), ← is_remainder) (sym found)

pub returns-then-left-eq0 : goal.returns-then-left-eq0
returns-then-left-eq0 t c = sym (walk_over _ _ _ _ _ c.if-left-eq0.true)

pub weight-requires : goal.weight-requires
weight-requires t c = omega (arith, level_below_11 _ c.requires)

pub remainder-requires : goal.remainder-requires
remainder-requires t c = child_step_in_range _ c.requires (omega arith) c.weight.ensures (omega arith)

pub nonzero_div-edge : goal.nonzero_div-edge
nonzero_div-edge t c = step_above_0 _ c.requires

pub overflow_cast-edge : goal.overflow_cast-edge
overflow_cast-edge t c = record { fits = edge_in_range _ c.requires (omega arith) c.weight.ensures (omega arith) _ c.remainder.ensures }

pub line_under-requires : goal.line_under-requires
line_under-requires t c = level_below_11 _ c.requires

pub returns-in_err-next : goal.returns-in_err-next
returns-in_err-next t c =
    let found = selected _ c.requires c.weight.ensures c.remainder.ensures c.in_err-next.ensures in
    rw c.from_residual.ensures (sym (walk_idle _ _ _ _ _ c.if-left-eq0.false (visits_within _ c.requires).2 c.weight.ensures found))

-- The next line was found under that edge.
found : (t : ℕ) (c : In_ok-next t) → line_under (path_at c.args.tree.rows.now) (path_at c.args.tree.rows.now c.args.line.number) c.args.level ((c.args.round.from + c.args.round.ahead) / c.args.step % c.weight.result) ≡ Some c.in_ok-next.next.number
found t c = selected _ c.requires c.weight.ensures c.remainder.ensures c.in_ok-next.ensures

pub ends_below-requires : goal.ends_below-requires
ends_below-requires t c = (line_under_within _ _ _ _ _ (found t (goal.at.ends_below-requires t c).In_ok-next)).1

pub returns-then-ends_below : goal.returns-then-ends_below
returns-then-ends_below t c =
    let under = found t (goal.at.returns-then-ends_below t c).In_ok-next in
    sym (walk_to_line _ _ _ _ _ c.if-left-eq0.false (visits_within _ c.requires).2 c.weight.ensures _ under (sym c.ends_below.ensures ∙ c.if-ends_below.true))

pub overflow_add-level : goal.overflow_add-level
overflow_add-level t c = omega (arith, level_below_11 _ c.requires)

pub walk-requires : goal.walk-requires
walk-requires t c =
    let under = found t (goal.at.walk-requires t c).In_ok-next in
    (omega (arith, c.if-left-eq0.false), visits_child _ c.requires c.weight.ensures under (sym c.ends_below.ensures ∙ c.if-ends_below.false))

pub returns : goal.returns
returns t c =
    let under = found t (goal.at.returns t c).In_ok-next in
    c.walk.ensures ∙ ap (walk_on_paths _ _ _ _) (sym (div-div-eq-div-mul _ _ _)) ∙ sym (walk_to_node _ _ _ _ _ c.if-left-eq0.false (visits_within _ c.requires).2 c.weight.ensures _ under (sym c.ends_below.ensures ∙ c.if-ends_below.false))
