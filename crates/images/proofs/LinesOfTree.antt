-- The lines of a legal tree, and the tree of legal lines.
-- Assumes nothing.
use Prim.Native.Nat.{ℕ, zero, suc, ◌*◌, ◌≤◌}
use native.Mathlib.Omega.{arith}
use native.Mathlib.Nat.{le-mul_of_pos_right}
use mathlib.Core.Path.{◌≡◌, refl, ◌∙◌, ap}
use mathlib.Core.Bool.{true}
use mathlib.Core.List.{List, [], ◌∷◌, ◌++◌, append-nil}
use Rattle.std.specs.Prelude.{Option, None, Some}
use Rattle.std.proofs.lemmas.List.Elements.{All-nil, All-cons, All-weaker}
use lib.ListN.{length, length-append}
use Rattle.tree.specs.declared.Row.{Row}
use Rattle.tree.specs.Tree.{Tree, nothing, product, sum, path}
use Rattle.tree.specs.Shape.{Legal}
use Rattle.tree.specs.Image.{PlanLine, lines_below}
use Rattle.tree.specs.ImageReading.{legal_lines, tree_of_lines}
use Rattle.tree.proofs.Depth.{at_most_11_above}
use Rattle.tree.proofs.Numbering.{stands_number}
use Rattle.tree.proofs.Standing.{path_stands}
use Rattle.paths.proofs.RowLaws.{some_rows}
use Rattle.paths.proofs.RangeLaws.{EdgesBelow, path_edges_below, period_in_range, sum_below}
use Rattle.bridge.proofs.LegalPaths.{legal_path_in_range}
use Rattle.bridge.proofs.RecordRoundTrip.{path_has_rows}
use Rattle.images.proofs.LineFits.{RowFits, RowsFit, LineFits, AllFit}
use Rattle.images.proofs.LinesInTree.{InTree, line_with, in_tree_legal, lines_in_tree, lines_rise}
use Rattle.images.proofs.LinesPutIn.{put_in_legal, put_in_listed, legal_fitting}
use Rattle.images.proofs.SameLines.{same_lines_same_tree}

pub lines_at_most : (t : Tree) (n : ℕ) → length (lines_below n t) ≤ n
unfolding lines_below
lines_at_most t zero = omega arith
lines_at_most t (suc n) = simp length-append (omega (arith, lines_at_most t n, at_most_1 (path n t)))
  where
    at_most_1 : (o : Option (List Row)) → length (line_with n o) ≤ 1
    at_most_1 None = omega arith
    at_most_1 (Some rs) = omega arith

-- The lines of a legal tree fit the fields

-- each weight is at most the period, and each edge below its weight
rows_fit : (rs : List Row) → EdgesBelow rs → product rs ≤ 4095 → RowsFit rs
unfolding EdgesBelow product
rows_fit [] h period = All-nil RowFits
rows_fit (r ∷ rs) h period =
    let edge = h.0 in
    let below = sum_below rs h.1 in
    let weight_most : r.weight ≤ r.weight * product rs = le-mul_of_pos_right r.weight (omega arith) in
    let rest_most : product rs ≤ product rs * r.weight = le-mul_of_pos_right (product rs) (omega arith) in
    let fits : RowFits r = record { some_weight = omega arith; weight_at_most = omega arith; edge_at_most = omega arith } in
    All-cons RowFits r rs fits (rows_fit rs h.1 (omega arith))

line_fits : (t : Tree) → Legal t → (x : PlanLine) → InTree t x → LineFits x
line_fits t is_legal x here =
    let in_range = legal_path_in_range t x.number x.path is_legal here in
    let number = stands_number x.number t (product x.path) (sum x.path) is_legal (path_stands x.number t x.path here) in
    record {
      number_below = omega arith;
      some_rows = some_rows x.path (path_has_rows t x.number x.path is_legal here);
      at_most_11 = at_most_11_above t x.number x.path is_legal here;
      rows_fit = rows_fit x.path (path_edges_below x.path in_range) (period_in_range x.path in_range);
    }

pub lines_fit : (t : Tree) → Legal t → AllFit (lines_below 64 t)
lines_fit t is_legal = All-weaker (InTree t) LineFits (line_fits t is_legal) (lines_below 64 t) (lines_in_tree t 64)

pub lines_legal : (t : Tree) → Legal t → legal_lines (lines_below 64 t) ≡ true
lines_legal t is_legal = in_tree_legal t is_legal (lines_below 64 t) (lines_rise t 64) (lines_in_tree t 64)

-- The tree of legal lines

pub lines_tree_legal : (xs : List PlanLine) → AllFit xs → legal_lines xs ≡ true → Legal (tree_of_lines xs)
unfolding tree_of_lines
lines_tree_legal xs fit are_legal = put_in_legal 0 xs nothing (legal_fitting xs fit are_legal)

no_lines : (n : ℕ) → lines_below n nothing ≡ []
unfolding lines_below path
no_lines zero = refl
no_lines (suc n) = append-nil (lines_below n nothing) ∙ no_lines n

-- the lines of the tree of legal lines are those lines
pub lines_of_their_tree : (xs : List PlanLine) → AllFit xs → legal_lines xs ≡ true → lines_below 64 (tree_of_lines xs) ≡ xs
unfolding tree_of_lines
lines_of_their_tree xs fit are_legal =
    put_in_listed 0 xs nothing (legal_fitting xs fit are_legal) ∙ ap (λ (ys : List PlanLine). ys ++ xs) (no_lines 64)

-- the tree of a legal tree's lines is that tree
pub tree_of_its_lines : (t : Tree) → Legal t → tree_of_lines (lines_below 64 t) ≡ t
tree_of_its_lines t is_legal =
    same_lines_same_tree (tree_of_lines xs) t (lines_tree_legal xs fit are_legal) is_legal (lines_of_their_tree xs fit are_legal)
  where
    xs : List PlanLine
    xs = lines_below 64 t

    fit : AllFit xs
    fit = lines_fit t is_legal

    are_legal : legal_lines xs ≡ true
    are_legal = lines_legal t is_legal
