-- The figures of `trial_at` are those of the definition over paths (`trial_at` of crate paths, specs/Rules.antt).
-- Assumes nothing.
use Rattle.std.specs.Prelude.{if◌then◌else◌}
use Prim.Native.Nat.{ℕ, zero, suc, ◌+◌, ◌*◌, ◌/◌, ◌<◌, ◌≤◌}
use native.Mathlib.Omega.{arith}
use native.Mathlib.Nat.{zero-add, zero-mul, mul-zero, suc-mul}
use mathlib.Core.Path.{◌≡◌}
use mathlib.Core.Bool.{Bool, true, false}
use mathlib.Core.List.{List}
use lib.Dec.{eqb, ltb}
use lib.ListN.{length}
use Rattle.tree.specs.declared.Row.{Row}
use Rattle.tree.specs.Trial.{Trial}
use Rattle.tree.specs.Record.{row_at, path_at}
use Rattle.paths.specs.Rules.{Family, class_taken, classes_taken, own_nodes, Spot, spot_start, trial_at}
use Rattle.tree.proofs.Totals.{count_at_most}
use Rattle.paths.proofs.PathRows.{weight_read}

-- The numbers that the code computes are in range

pub below_65536 : (n : ℕ) → n ≤ 4096 → n < 65536
below_65536 n most = omega arith

pub divisor_positive : (m d : ℕ) → 0 < m * d → 0 < d
divisor_positive m zero positive = absurd (omega (arith, mul-zero m))
divisor_positive m (suc d) positive = omega arith

pub divisor_at_most : (m d : ℕ) → 0 < m * d → d ≤ m * d
divisor_at_most zero d positive = absurd (omega (arith, zero-mul d))
divisor_at_most (suc m) d positive = omega (arith, suc-mul m d)

-- there are at most d classes
pub classes_at_most : (family : Family) (ps : List Row) (l d : ℕ) {groups : ℕ} → groups ≡ classes_taken family ps l d → groups ≤ d
unfolding classes_taken
classes_at_most family ps l d groups_are = rw groups_are (count_at_most d (class_taken family ps l d))

pub own_at_most : (q : ℕ) {own : ℕ} → own ≡ own_nodes q → own ≤ 1
unfolding own_nodes
own_at_most q own_is = rw own_is (by_test (eqb q 1))
  where
    by_test : (b : Bool) → (if b then 0 else 1) ≤ 1
    by_test true = omega arith
    by_test false = omega arith

-- The figures

-- w was read as the weight of the spot's node, the start is the spot's, and so many nodes are the line's own
module _ (rows : List ℕ) (p : ℕ) (s : Spot) (below : s.level < length (path_at rows s.line)) {w : ℕ} (read : w ≡ (row_at rows s.line s.level).weight)
    {start own : ℕ} (start_is : start ≡ s.offset + s.class * s.step) (own_is : own ≡ own_nodes (p / (s.step * s.divisor))) where
  abbrev told : ℕ → Trial
  told added = record { start = start; added = added; split = ltb s.divisor w }

  pub told_whole : ltb s.divisor w ≡ false → told own ≡ trial_at (path_at rows) p s
  unfolding trial_at spot_start
  told_whole large = rw (weight_read rows s.line below read, large, start_is, own_is, zero-add)

  pub told_split : ltb s.divisor w ≡ true → {groups : ℕ} → groups ≡ classes_taken (path_at rows) (path_at rows s.line) s.level s.divisor → told (groups + own) ≡ trial_at (path_at rows) p s
  unfolding trial_at spot_start
  told_split small groups_are = rw (weight_read rows s.line below read, small, start_is, own_is, groups_are)
