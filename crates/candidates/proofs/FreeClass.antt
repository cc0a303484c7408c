-- The invariants of `free_class`'s loops: every class passed has a present edge, and of the class at hand none of the edges passed is marked.
-- Assumes nothing.
use Prim.Native.Nat.{ℕ, ◌+◌, ◌*◌, ◌/◌, ◌%◌, ◌<◌, ◌≤◌}
use native.Mathlib.Omega.{arith}
use native.Mathlib.Nat.{mod-eq_of_lt, mod-add-div, add-mul-mod_self_left, lt_of_mul-lt-mul_left, mul-zero, mul-add, mul-one}
use mathlib.Core.Path.{◌≡◌, refl, sym, ◌∙◌, ap}
use mathlib.Core.Bool.{Bool, true, false, not, ◌&&◌, true≢false, and-eq-true_iff}
use mathlib.Core.List.{List}
use Rattle.std.specs.Prelude.{None, Some}
use lib.Dec.{eqb}
use borrow.Author.Count.{below_none, below_more}
use borrow.Author.Tests.{eqb-true, eq-eqb, ne_eqb}
use Rattle.tree.specs.Search.{some_below}
use Rattle.tree.specs.Record.{path_at, legal}
use Rattle.paths.specs.Rules.{row_of, same_node, line_under, class_taken, class_on_path}
use Rattle.tree.proofs.Searching.{some_below_true, some_below_at, some_below_none}
use Rattle.paths.proofs.AllBelow.{so_far_more}
use Rattle.paths.proofs.NoneBelow.{NoneBelow, smallest_here, smallest_nowhere}
use Rattle.candidates.specs.Edges.{marked, edge_present, MarksPresent, FirstThrough}
use Rattle.candidates.proofs.PresentEdges.{takes_edge, edge_of_node}

-- no line takes an edge of class i
abbrev is_free : List ℕ → ℕ → ℕ → ℕ → ℕ → Bool
is_free rows L l d i = not (class_taken (path_at rows) (path_at rows L) l d i)

-- the classes below i were searched
abbrev pub Classes : List ℕ → ℕ → ℕ → ℕ → ℕ → Type 0
Classes rows L l d i = NoneBelow d (is_free rows L l d) i

-- of class i the edges i + d·j below e were searched
pub record EdgesOfClass (marks : List ℕ) (d i e : ℕ) : Type 0 where
  pub count : ℕ
  pub edge_is : e ≡ i + d * count
  pub unmarked : (j : ℕ) → j < count → marked marks (i + d * j) ≡ false

pub edges_start : (marks : List ℕ) (d i : ℕ) → EdgesOfClass marks d i i
edges_start marks d i = record { count = 0; edge_is = omega (arith, mul-zero d); unmarked = below_none (λ (j : ℕ). marked marks (i + d * j) ≡ false) }

pub edges_more : {marks : List ℕ} {d i e : ℕ} → EdgesOfClass marks d i e → marked marks e ≡ false → EdgesOfClass marks d i (e + d)
edges_more {marks} {d} {i} edges absent = record {
  count = edges.count + 1;
  edge_is = omega (arith, edges.edge_is, mul-add d edges.count 1, mul-one d);
  unmarked = below_more (λ (j : ℕ). marked marks (i + d * j) ≡ false) edges.count edges.unmarked (rw (← edges.edge_is) absent);
}

-- A class and its edges

module _ (rows : List ℕ) (L l : ℕ) {marks : List ℕ} (marks_present : MarksPresent (path_at rows) (path_at rows L) l marks) where
  -- a marked edge takes its class
  marked_takes : (d e : ℕ) → marked marks e ≡ true → class_taken (path_at rows) (path_at rows L) l d (e % d) ≡ true
  unfolding class_taken edge_present line_under some_below
  marked_takes d e mark =
      let taken = some_below_true 64 (takes_edge rows L l e) (sym (marks_present.each e) ∙ mark) in
      let M = taken.0 in
      let both = (and-eq-true_iff (same_node l (path_at rows L) (path_at rows M)) (eqb (row_of l (path_at rows M)).edge e)).0 taken.2 in
      some_below_at 64 _ M taken.1 (rw (both.0, eqb-true (row_of l (path_at rows M)).edge e both.1) (eq-eqb (e % d) (e % d) refl))

  module _ {d i e : ℕ} (edges : EdgesOfClass marks d i e) (searched : Classes rows L l d i) (in_range : i < d) where
    edge_class : e % d ≡ i
    edge_class = rw (edges.edge_is, add-mul-mod_self_left i d edges.count) (mod-eq_of_lt in_range)

    -- an edge of the class is present: on to the next class
    pub class_passed : marked marks e ≡ true → Classes rows L l d (i + 1)
    class_passed mark = so_far_more searched in_range (ap not (rw edge_class at (marked_takes d e mark)))

    -- all edges of the class below the weight were searched
    module _ (first : FirstThrough rows L l) (is_legal : legal rows ≡ true) (past : (row_of l (path_at rows L)).weight ≤ e) where
      edge_unmarked : (k : ℕ) → k < (row_of l (path_at rows L)).weight → k % d ≡ i → marked marks k ≡ false
      edge_unmarked k below class_is =
          let digits : i + d * (k / d) ≡ k = rw (← class_is) (mod-add-div k d) in
          let before : k / d < edges.count = lt_of_mul-lt-mul_left d (omega (arith, edges.edge_is, digits)) in
          rw digits at (edges.unmarked (k / d) before)

      line_elsewhere : (M : ℕ) → M < 64 → (same_node l (path_at rows L) (path_at rows M) && eqb ((row_of l (path_at rows M)).edge % d) i) ≡ false
      unfolding edge_present line_under some_below
      line_elsewhere M below = go (same_node l (path_at rows L) (path_at rows M)) refl
        where
          k : ℕ
          k = (row_of l (path_at rows M)).edge

          go : (b : Bool) → same_node l (path_at rows L) (path_at rows M) ≡ b → (b && eqb (k % d) i) ≡ false
          go false apart = refl
          go true through =
              let is_present = some_below_at 64 (takes_edge rows L l k) M below (rw through (eq-eqb k k refl)) in
              ne_eqb (k % d) i (λ same. true≢false (sym is_present ∙ sym (marks_present.each k) ∙ edge_unmarked k (edge_of_node first is_legal below through) same))

      pub class_free : class_on_path (path_at rows) (path_at rows L) l d ≡ Some i
      unfolding class_on_path class_taken
      class_free = smallest_here searched in_range (ap not (some_below_none 64 _ line_elsewhere))

pub no_class_free : (rows : List ℕ) (L l : ℕ) {d i : ℕ} → Classes rows L l d i → d ≤ i → class_on_path (path_at rows) (path_at rows L) l d ≡ None
unfolding class_on_path
no_class_free rows L l classes past = smallest_nowhere classes past
