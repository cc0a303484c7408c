-- Two paths go through the same node at a level exactly where they have more nodes in common (`nodes_in_common`). Then the invariant of the loop
-- that counts these: the nodes passed, and those that what is left of the two paths has in common.
-- Assumes nothing.
use Rattle.std.specs.Prelude.{if◌then◌else◌}
use Prim.Native.Nat.compare
use Prim.Native.Nat.{ℕ, zero, suc, ◌+◌, ◌<◌, ◌≤◌, zero-le}
use native.Mathlib.Omega.{arith}
use native.Mathlib.Nat.{zero-add, zero-lt-suc}
use mathlib.Core.Path.{◌≡◌, refl, sym, ◌∙◌, ap}
use mathlib.Core.Bool.{Bool, true, false, ◌&&◌}
use mathlib.Core.List.{List, [], ◌∷◌}
use lib.Dec.{eqb, ltb, is_le}
use lib.ListN.{length, get_or, take, drop}
use lib.Seq.{length-take-le, get_or-take}
use borrow.Author.Tests.{lt-ltb, le-ltb, eq-eqb, ne_eqb}
use Rattle.std.proofs.lemmas.List.{drop_more, drop_all}
use Rattle.tree.specs.declared.Row.{Row}
use Rattle.tree.specs.Tree.{row}
use Rattle.tree.specs.Record.{row_at, path_at}
use Rattle.paths.specs.Rules.{same_node}
use Rattle.paths.proofs.PathRest.{path_rest, path_rest_start, path_rest_row, path_rest_end}
use Rattle.joining.specs.Common.{nodes_in_common}

pub in_common_same_node : (l : ℕ) (ps qs : List Row) → ltb l (nodes_in_common ps qs) ≡ same_node l ps qs
unfolding nodes_in_common same_node
in_common_same_node l [] qs = le-ltb l 0 zero-le
in_common_same_node l (p ∷ ps) [] = le-ltb l 0 zero-le
in_common_same_node zero (p ∷ ps) (q ∷ qs) = lt-ltb 0 _ (zero-lt-suc _)
in_common_same_node (suc l) (p ∷ ps) (q ∷ qs) = go (in_common_same_node l ps qs) (eqb p.edge q.edge)
  where
    go : ltb l (nodes_in_common ps qs) ≡ same_node l ps qs → (b : Bool) → ltb (suc l) (suc (if b then nodes_in_common ps qs else 0)) ≡ (b && same_node l ps qs)
    go later true = ap is_le (compare.suc-suc (suc l) (nodes_in_common ps qs)) ∙ later
    go later false = le-ltb (suc l) 1 (omega arith)

-- a path without rows has none in common
pub none_in_common : (ps : List Row) → nodes_in_common ps [] ≡ 0
unfolding nodes_in_common
none_in_common [] = refl
none_in_common (p ∷ ps) = refl

pub record Counted (rows : List ℕ) (path : List Row) (n M k : ℕ) : Type 0 where
  pub within : k ≤ n
  pub same : k + nodes_in_common (drop k (take n path)) (path_rest rows M k) ≡ nodes_in_common (take n path) (path_at rows M)

pub counted_none : (rows : List ℕ) (path : List Row) (n M : ℕ) → Counted rows path n M 0
counted_none rows path n M = record { within = zero-le; same = rw (path_rest_start rows M, zero-add) refl }

module _ {rows : List ℕ} {path : List Row} {n M k : ℕ} (counted : Counted rows path n M k) where
  -- all rows of the first path were passed
  pub all_counted : n ≤ length path → n ≤ k → n ≡ nodes_in_common (take n path) (path_at rows M)
  unfolding nodes_in_common
  all_counted enough past =
      let none = drop_all k (take n path) (omega (arith, length-take-le n path enough)) in
      let same = rw none at counted.same in
      omega (arith, counted.within)

  -- q was read as row k of line M
  module _ (few : n ≤ 11) (below : k < n) {q : Row} (read : q ≡ row_at rows M k) where
    within : k < 11
    within = omega arith

    -- the second path has ended
    pub counted_to_end : q.weight ≡ 0 → k ≡ nodes_in_common (take n path) (path_at rows M)
    counted_to_end no_weight =
        let ended = path_rest_end rows M k within (ap (λ (r : Row). r.weight) read) no_weight in
        let same = rw (ended, none_in_common) at counted.same in
        omega arith

    -- both go on, from one node more
    module _ (enough : n ≤ length path) (some_weight : q.weight ≡ 0 → ⊥) {e : ℕ} (read_edge : e ≡ (get_or path k (row 0 0)).edge) where
      one_more : k + suc (if eqb e q.edge then nodes_in_common (drop (k + 1) (take n path)) (path_rest rows M (k + 1)) else 0) ≡ nodes_in_common (take n path) (path_at rows M)
      unfolding nodes_in_common
      one_more =
          let first = drop_more (take n path) k (row 0 0) (omega (arith, length-take-le n path enough)) in
          let second = path_rest_row rows M k within (ap (λ (r : Row). r.weight) read) some_weight in
          rw (read_edge, read, ← get_or-take n path k (row 0 0) below) (rw (first, second) at counted.same)

      pub counted_to_last : (q.edge ≡ e → ⊥) → k + 1 ≡ nodes_in_common (take n path) (path_at rows M)
      counted_to_last other = rw (ne_eqb e q.edge (λ same. other (sym same))) at one_more

      pub counted_more : q.edge ≡ e → Counted rows path n M (k + 1)
      counted_more equal =
          let same = rw (eq-eqb e q.edge (sym equal)) at one_more in
          record { within = omega arith; same = omega arith }
