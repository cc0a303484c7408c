-- All nodes of a path joined, level by level from the deepest one up that a line goes through.
-- Assumes nothing.
use Prim.Native.Nat.{ℕ, zero, suc, ◌<◌, ◌≤◌, ◌-◌, min}
use native.Mathlib.Omega.{arith}
use native.Mathlib.Decide.{dec_lt}
use native.Mathlib.Nat.{eq-or-lt_of_le}
use mathlib.Core.Path.{◌≡◌, refl, sym, ◌∙◌, ap}
use mathlib.Core.Logic.{inl, inr}
use mathlib.Core.Bool.{Bool, true, true≢false}
use mathlib.Core.List.{List}
use Rattle.std.specs.Prelude.{None}
use lib.ListN.{length, get_or}
use Rattle.tree.specs.declared.Row.{Row}
use Rattle.tree.specs.Tree.{Tree}
use Rattle.tree.specs.Closing.{join_fully, joined_up}
use Rattle.tree.specs.Record.{path_at, legal}
use Rattle.tree.specs.Search.{each_below}
use Rattle.paths.specs.Rules.{same_node}
use Rattle.paths.proofs.PathRest.{path_length_at_most_11}
use Rattle.paths.proofs.JoiningPaths.{OneWeightOnPaths, one_weight_on_paths}
use Rattle.paths.proofs.SameNode.{same_node_goes_on}
use Rattle.bridge.specs.Rows.{tree_of_rows, LegalWith}
use Rattle.bridge.specs.Joining.{along, joined_below, weight_to_join, TakesThrough}
use Rattle.bridge.proofs.JoinLevels.{joined_up_by_levels, level_still}
use Rattle.bridge.proofs.WeightOnPaths.{weight_on_paths_is, taken_path_long}
use Rattle.joining.specs.Common.{nodes_in_common, through}
use Rattle.joining.specs.Levels.{CommonWith, LevelJoined}
use Rattle.joining.proofs.LinesThrough.{through_same_node, not_through}
use Rattle.joining.proofs.WeightBelow.{no_one_weight}

-- The nodes on the first n levels of the path are left to be joined.
pub record LevelsLeft (start rows : List ℕ) (ps : List Row) (common : List ℕ) (n : ℕ) : Type 0 where
  pub size : length rows ≡ 1408
  pub common_with : CommonWith rows ps common n
  pub left : joined_below n ps (tree_of_rows rows) ≡ joined_up ps (tree_of_rows start)

-- From level n on there is nothing to join on the way along the path.
abbrev pub NothingFrom : List ℕ → List Row → ℕ → Type 0
NothingFrom rows ps n = (l : ℕ) → n ≤ l → l < 11 → weight_to_join (along l ps (tree_of_rows rows)) ≡ None

-- then joining there changes nothing
joined_below_same : (k n : ℕ) (ps : List Row) (t : Tree) → n ≤ k → ((l : ℕ) → n ≤ l → l < k → weight_to_join (along l ps t) ≡ None) → joined_below k ps t ≡ joined_below n ps t
unfolding joined_below join_fully
joined_below_same zero n ps t within none = let here : n ≡ 0 = omega arith in rw here
joined_below_same (suc k) n ps t within none =
    elim (eq-or-lt_of_le within) [
      | inl here ↦ rw here
      | inr later ↦
          ap (joined_below k ps) (level_still 10 k ps t (none k (omega arith) (omega arith)))
          ∙ joined_below_same k n ps t (omega arith) (λ l past below. none l past (omega arith))
    ]

module _ (rows : List ℕ) (ps : List Row) (is_legal : legal rows ≡ true) where
  abbrev on_path : ℕ → ℕ → Bool
  on_path l M = same_node l ps (path_at rows M)

  nothing_to_join : (l : ℕ) → ((v : ℕ) → OneWeightOnPaths (path_at rows) (on_path l) l v → ⊥) → weight_to_join (along l ps (tree_of_rows rows)) ≡ None
  nothing_to_join l none = sym (weight_on_paths_is rows is_legal ps l (on_path l) (λ M below. refl)) ∙ no_one_weight (path_at rows) (on_path l) l none

  -- beyond the path no line goes through a node of it
  beyond_path : NothingFrom rows ps (length ps)
  beyond_path l past within = nothing_to_join l (λ v one. omega (arith, (same_node_goes_on l ps (path_at rows one.line) one.line_taken).0))

  -- under the node at level 10 there are lines alone
  lines_at_level_10 : weight_to_join (along 10 ps (tree_of_rows rows)) ≡ None
  lines_at_level_10 = nothing_to_join 10 (λ v one.
      let e = one_weight_on_paths (path_at rows) (on_path 10) 10 v one in
      let goes_on = taken_path_long rows is_legal ps 10 (on_path 10) (λ M below. refl) v e one.line one.line_below one.line_taken in
      omega (arith, goes_on.0, path_length_at_most_11 rows one.line))

  -- no line has more nodes in common with the path
  module _ {common : List ℕ} (listed : common ≡ each_below 64 (λ M. nodes_in_common ps (path_at rows M))) {deepest : ℕ} (none_larger : (M : ℕ) → M < 64 → get_or common M 0 ≤ deepest) where
    takes_through : (l : ℕ) → TakesThrough rows ps l (through common l)
    takes_through l = rw listed (through_same_node rows ps l)

    nothing_deeper : NothingFrom rows ps (min deepest 10)
    nothing_deeper l past within =
        elim (dec_lt l 10) [
          | yes above ↦ nothing_to_join l (λ v one.
              let few = not_through common l one.line (omega (arith, none_larger one.line one.line_below)) in
              true≢false (sym one.line_taken ∙ sym (takes_through l one.line one.line_below) ∙ few))
          | no last ↦ let here : l ≡ 10 = omega arith in rw here lines_at_level_10
        ]

    pub all_levels_left : length rows ≡ 1408 → length ps ≤ 11 → LevelsLeft rows rows ps common (min deepest 10)
    all_levels_left size short = record {
      size = size;
      common_with = record { is_legal = is_legal; takes = λ k below. takes_through k };
      left =
          sym (joined_below_same 11 (min deepest 10) ps (tree_of_rows rows) (omega arith) nothing_deeper)
          ∙ joined_below_same 11 (length ps) ps (tree_of_rows rows) short beyond_path
          ∙ joined_up_by_levels ps (tree_of_rows rows);
    }

-- where a level is left, it is the one above the counted one
pub next_level : {start rows : List ℕ} {ps : List Row} {common : List ℕ} {n : ℕ} → LevelsLeft start rows ps common n → 0 < n → LevelsLeft start rows ps common (suc (n - 1))
next_level {n = n} h some =
    let same : suc (n - 1) ≡ n = omega arith in
    rw same h

pub one_level_less : (start rows new : List ℕ) (ps : List Row) (common : List ℕ) (n : ℕ) → length new ≡ 1408 → LevelsLeft start rows ps common (suc n) → LevelJoined rows new ps common n → LevelsLeft start new ps common n
unfolding joined_below
one_level_less start rows new qs _ n size before joined = record {
  size = size;
  common_with = record { is_legal = joined.common_still.is_legal; takes = λ k below. joined.common_still.takes k (omega arith) };
  left = ap (joined_below n qs) joined.tree_is ∙ before.left;
}

pub no_level_left : (start rows : List ℕ) (ps : List Row) (common : List ℕ) → LevelsLeft start rows ps common 0 → LegalWith rows (joined_up ps (tree_of_rows start))
unfolding joined_below
no_level_left start rows _ _ h = record { is_legal = h.common_with.is_legal; tree_is = h.left }
