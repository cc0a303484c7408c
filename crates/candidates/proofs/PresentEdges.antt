-- The edges that lines take at a node which no earlier line goes through (`FirstThrough`, specs/Edges.antt), and the invariant of the loop that marks them.
-- Assumes nothing.
use Prim.Native.Nat.{ℕ, ◌+◌, ◌<◌, ◌≤◌}
use native.Mathlib.Omega.{arith}
use mathlib.Core.Path.{◌≡◌, refl, sym, ◌∙◌, ap}
use mathlib.Core.Logic.{inl, inr}
use Rattle.std.proofs.lemmas.Bool.{cases_order}
use mathlib.Core.Bool.{Bool, true, false, ◌&&◌, true≢false, or-false}
use mathlib.Core.List.{List}
use lib.Dec.{eqb}
use lib.ListN.{length, replicate}
use Rattle.tree.specs.declared.Row.{Row}
use Rattle.tree.specs.Search.{some_below}
use Rattle.tree.specs.Record.{row_at, path_at, legal}
use Rattle.paths.specs.Rules.{row_of, same_node, line_under}
use Rattle.tree.proofs.Searching.{some_below_none}
use Rattle.paths.proofs.NoneBelow.{some_below_more, some_below_up_to}
use Rattle.paths.proofs.RowLaws.{no_rows_empty}
use Rattle.paths.proofs.PathNumbers.{edge_below_weight, weight_small}
use Rattle.paths.proofs.PathRows.{row_in_path}
use Rattle.paths.proofs.SameNode.{same_node_none, same_node_comm, same_node_goes_on}
use Rattle.candidates.specs.Edges.{marked, with_mark, edge_present, MarksPresent, ClosedFrom, FirstThrough}
use Rattle.candidates.proofs.OneNode.{lines_through_one}
use Rattle.candidates.proofs.Marks.{none_marked, with_mark_length, marked_more}

-- The lines through the node

module _ {rows : List ℕ} {L l : ℕ} (first : FirstThrough rows L l) {M : ℕ} where
  earlier_line_apart : M < L → same_node l (path_at rows L) (path_at rows M) ≡ false
  earlier_line_apart earlier = same_node_comm l (path_at rows L) (path_at rows M) ∙ first.first M earlier

  module _ (is_legal : legal rows ≡ true) (below : M < 64) (through : same_node l (path_at rows L) (path_at rows M) ≡ true) where
    one_weight : (row_of l (path_at rows M)).weight ≡ (row_of l (path_at rows L)).weight
    one_weight =
        elim (cases_order M L) [
          | inl same ↦ rw same
          | inr (inl earlier) ↦ absurd (true≢false (sym through ∙ earlier_line_apart earlier))
          | inr (inr later) ↦ sym (lines_through_one rows is_legal l L M below later through).weight_is
        ]

    -- it takes an edge below the node's weight
    pub edge_of_node : (row_of l (path_at rows M)).edge < (row_of l (path_at rows L)).weight
    edge_of_node = rw one_weight at (edge_below_weight rows is_legal M below (same_node_goes_on l (path_at rows L) (path_at rows M) through).1)

pub node_weight_small : {rows : List ℕ} {L l : ℕ} → FirstThrough rows L l → legal rows ≡ true → L < 64 → (row_of l (path_at rows L)).weight ≤ 4095
node_weight_small {rows} {L} first is_legal line_below = weight_small rows is_legal L line_below first.on_path

-- The loop

-- line M takes edge e of the node at level l of line L's path
abbrev pub takes_edge : List ℕ → ℕ → ℕ → ℕ → ℕ → Bool
takes_edge rows L l e M = same_node l (path_at rows L) (path_at rows M) && eqb (row_of l (path_at rows M)).edge e

-- marked are the edges that the lines below M take
pub record Marking (rows : List ℕ) (L l : ℕ) (marks : List ℕ) (M : ℕ) : Type 0 where
  pub within : M ≤ 64
  pub words : length marks ≡ 64
  pub each : (e : ℕ) → marked marks e ≡ some_below M (takes_edge rows L l e)

-- no line below L goes through the node
pub marking_start : {rows : List ℕ} {L l : ℕ} → FirstThrough rows L l → L < 64 → Marking rows L l (replicate 64 0) L
marking_start {rows} {L} {l} first line_below = record {
  within = omega arith;
  words = refl;
  each = λ e. none_marked e ∙ sym (some_below_none L (takes_edge rows L l e) (λ M earlier. ap (λ (b : Bool). b && eqb (row_of l (path_at rows M)).edge e) (earlier_line_apart first earlier)));
}

module _ {rows : List ℕ} {L l : ℕ} {marks : List ℕ} {M : ℕ} (marking : Marking rows L l marks M) (below : M < 64) where
  pub marking_apart : same_node l (path_at rows L) (path_at rows M) ≡ false → Marking rows L l marks (M + 1)
  marking_apart apart = record {
    within = omega arith;
    words = marking.words;
    each = λ e. marking.each e ∙ sym (or-false _) ∙ rw (some_below_more M (takes_edge rows L l e), apart);
  }

  -- e was read as the edge in row l of line M
  module _ (meets : same_node l (path_at rows L) (path_at rows M) ≡ true) {e : ℕ} (read : e ≡ (row_at rows M l).edge) (first : FirstThrough rows L l) (is_legal : legal rows ≡ true) (line_below : L < 64) where
    edge_is : (row_of l (path_at rows M)).edge ≡ e
    edge_is = ap (λ (r : Row). r.edge) (row_in_path rows M (same_node_goes_on l (path_at rows L) (path_at rows M) meets).1) ∙ sym read

    pub edge_small : e < 4096
    edge_small = omega (arith, edge_is, edge_of_node first is_legal below meets, node_weight_small first is_legal line_below)

    pub marking_through : {after : List ℕ} → after ≡ with_mark marks e → Marking rows L l after (M + 1)
    marking_through written = rw written record {
      within = omega arith;
      words = with_mark_length marks e ∙ marking.words;
      each = λ k. rw (marked_more marks e (omega (arith, edge_small, marking.words)) k, marking.each k, some_below_more M (takes_edge rows L l k), meets, edge_is);
    }

-- the lines from `end` on are closed and take no edge
pub marking_all : {rows : List ℕ} {end : ℕ} → ClosedFrom rows end → {L l : ℕ} {marks : List ℕ} {M : ℕ} → Marking rows L l marks M → end ≤ M → MarksPresent (path_at rows) (path_at rows L) l marks
unfolding edge_present line_under some_below
marking_all {rows} from {L} {l} {M = M} marking past =
    record { each = λ e. marking.each e ∙ sym (some_below_up_to (takes_edge rows L l e) marking.within (closed_apart e)) }
  where
    closed_apart : (e N : ℕ) → M ≤ N → N < 64 → takes_edge rows L l e N ≡ false
    closed_apart e N later below =
        let no_path = no_rows_empty (path_at rows N) (from.closed N (omega arith) below) in
        rw (no_path, same_node_none l (path_at rows L))
