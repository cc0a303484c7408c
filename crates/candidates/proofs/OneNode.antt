-- When two paths go through one node, and that the node offers the same on both: so a node is looked at once.
-- Assumes nothing.
use Rattle.std.specs.Prelude.{if◌then◌else◌, Option, None, Some, option_map}
use Prim.Native.Nat.{ℕ, zero, suc, ◌+◌, ◌*◌, ◌%◌, ◌<◌, ◌≤◌}
use native.Mathlib.Omega.{arith}
use mathlib.Core.Path.{◌≡◌, refl, sym, ◌∙◌, ap, fun_ext}
use mathlib.Core.Bool.{Bool, true, false, not, ◌&&◌, false≢true, and-eq-true_iff}
use mathlib.Core.List.{List, [], ◌∷◌}
use lib.Dec.{eqb}
use lib.ListN.{length, take}
use borrow.Author.Tests.{eqb-true, eq-eqb}
use Rattle.tree.specs.declared.Row.{Row}
use Rattle.tree.specs.Numbers.{divides}
use Rattle.tree.specs.Search.{smallest, some_below, smaller_by}
use Rattle.tree.specs.Tree.{product, sum}
use Rattle.tree.specs.Opening.{divisor}
use Rattle.tree.specs.Record.{path_at, parts, no_rows, together, legal}
use Rattle.tree.proofs.Digits.{digits_same}
use Rattle.tree.proofs.Options.{some-none}
use Rattle.tree.proofs.Standing.{sum_row}
use Rattle.paths.specs.Rules.{Family, row_of, same_node, class_taken, class_on_path, Spot, spot_start, spot_with, spot_at}
use Rattle.paths.proofs.LegalLines.{legal_together}
use Rattle.paths.proofs.PathNumbers.{edges_below}
use Rattle.paths.proofs.PathsPart.{parts_row}
use Rattle.paths.proofs.RangeLaws.{EdgesBelow}
use Rattle.paths.proofs.SameNode.{same_node_goes_on, same_node_either}
use Rattle.candidates.proofs.NothingBetter.{NoBetter, no_better_start, start_no_better}

-- One node

-- two paths through one node at level l: the rows above it, and its weight
pub record OneNode (l : ℕ) (ps qs : List Row) : Type 0 where
  pub rows_above : take l ps ≡ take l qs
  pub weight_is : (row_of l ps).weight ≡ (row_of l qs).weight

-- in one tree, two paths with the same edges as far as level l go through one node there
one_node : (l : ℕ) (ps qs : List Row) → parts ps qs ≡ true → same_node l ps qs ≡ true → OneNode l ps qs
unfolding parts same_node row_of
one_node l [] qs part meet = absurd (false≢true part)
one_node l (p ∷ ps) [] part meet = absurd (false≢true part)
one_node zero (p ∷ ps) (q ∷ qs) part meet = record {
  rows_above = refl;
  weight_is = (parts_row p ps q qs part).0;
}
one_node (suc l) (p ∷ ps) (q ∷ qs) part meet =
    let parted = parts_row p ps q qs part in
    let met = (and-eq-true_iff (eqb p.edge q.edge) (same_node l ps qs)).0 meet in
    let edges = eqb-true p.edge q.edge met.0 in
    let later = one_node l ps qs (parted.1 edges) met.1 in
    record {
      rows_above = λ i. record { weight = parted.0 i; edge = edges i } ∷ later.rows_above i;
      weight_is = later.weight_is;
    }

parts_where_long : (ps qs : List Row) → together ps qs ≡ true → {j l : ℕ} → j < length ps → l < length qs → parts ps qs ≡ true
unfolding together no_rows
parts_where_long [] qs t there here = absurd (omega arith)
parts_where_long (p ∷ ps) [] t there here = absurd (omega arith)
parts_where_long (p ∷ ps) (q ∷ qs) t there here = t

-- the same of two lines of a legal record
pub lines_through_one : (rows : List ℕ) → legal rows ≡ true → (l M L : ℕ) → L < 64 → M < L → same_node l (path_at rows M) (path_at rows L) ≡ true → OneNode l (path_at rows M) (path_at rows L)
lines_through_one rows is_legal l M L below earlier meet =
    let on = same_node_goes_on l (path_at rows M) (path_at rows L) meet in
    one_node l (path_at rows M) (path_at rows L) (parts_where_long (path_at rows M) (path_at rows L) (legal_together rows is_legal L below M earlier) on.0 on.1) meet

-- One offset

sum_first : (r : Row) (rs : List Row) (l : ℕ) → sum (take (suc l) (r ∷ rs)) ≡ r.edge + r.weight * sum (take l rs)
sum_first r rs l = sum_row r (take l rs)

-- of two paths that part, the one goes through the other's node of its own offset and a smaller level: the edges above are the digits of the offset
same_offset : (l j : ℕ) (ps qs : List Row) → EdgesBelow ps → EdgesBelow qs → parts ps qs ≡ true → l ≤ j → j < length ps → l < length qs → sum (take j ps) ≡ sum (take l qs) → same_node l ps qs ≡ true
unfolding parts same_node EdgesBelow
same_offset l j [] qs ps_below qs_below part deeper there here same = absurd (omega arith)
same_offset l j (p ∷ ps) [] ps_below qs_below part deeper there here same = absurd (omega arith)
same_offset zero j (p ∷ ps) (q ∷ qs) ps_below qs_below part deeper there here same = refl
same_offset (suc l) zero (p ∷ ps) (q ∷ qs) ps_below qs_below part deeper there here same = absurd (omega arith)
same_offset (suc l) (suc j) (p ∷ ps) (q ∷ qs) ps_below qs_below part deeper there here same =
    let parted = parts_row p ps q qs part in
    let digits : p.edge + p.weight * sum (take j ps) ≡ q.edge + p.weight * sum (take l qs) = sym (sum_first p ps j) ∙ same ∙ sum_first q qs l ∙ ap (λ (w : ℕ). q.edge + w * sum (take l qs)) (sym parted.0) in
    let both = digits_same p.weight p.edge _ q.edge _ ps_below.0 (rw parted.0 qs_below.0) digits in
    rw (eq-eqb p.edge q.edge both.0) (same_offset l j ps qs ps_below.1 qs_below.1 (parted.1 both.0) (omega arith) (omega arith) (omega arith) both.1)

pub lines_of_one_offset : (rows : List ℕ) → legal rows ≡ true → (M L : ℕ) → L < 64 → M < L → (j l : ℕ) → l ≤ j → j < length (path_at rows M) → l < length (path_at rows L) →
    sum (take j (path_at rows M)) ≡ sum (take l (path_at rows L)) → same_node l (path_at rows M) (path_at rows L) ≡ true
lines_of_one_offset rows is_legal M L below earlier j l deeper there here same =
    same_offset l j (path_at rows M) (path_at rows L) (edges_below rows is_legal M (omega arith)) (edges_below rows is_legal L below)
    (parts_where_long (path_at rows M) (path_at rows L) (legal_together rows is_legal L below M earlier) there here) deeper there here same

-- One offer

-- what a node of step m and offset r at level l of line M's path offers, with divisor d: b says whether the step divides, and i is the class found
offer : ℕ → ℕ → ℕ → ℕ → ℕ → Bool → Option ℕ → Option Spot
offer M l m r d b i = if b then option_map (λ c. record { line = M; level = l; offset = r; step = m; divisor = d; class = c }) i else None

same_class : (family : Family) (ps qs : List Row) (l d : ℕ) → same_node l ps qs ≡ true → class_on_path family ps l d ≡ class_on_path family qs l d
unfolding class_on_path class_taken
same_class family ps qs l d meet =
    ap (λ (through : ℕ → Bool). smallest d (λ i. not (some_below 64 (λ M. through M && eqb ((row_of l (family M)).edge % d) i))))
    (fun_ext λ M. same_node_either l ps qs meet (family M))

-- offers that differ in the line alone are no better together
other_line : (M L l m r d : ℕ) (b : Bool) (i : Option ℕ) (o : Option Spot) → NoBetter (offer M l m r d b i) o → NoBetter (offer L l m r d b i) o
unfolding offer spot_start smaller_by
other_line M L l m r d false i o h = h
other_line M L l m r d true None o h = h
other_line M L l m r d true (Some i) None h = absurd (some-none _ h)
other_line M L l m r d true (Some i) (Some s) h = start_no_better _ s (no_better_start _ s h)

-- what an earlier line's path offers at a node is no better than the best so far, so this path offers nothing better there
pub met_no_better : (rows : List ℕ) (p M L l : ℕ) → legal rows ≡ true → L < 64 → M < L → same_node l (path_at rows M) (path_at rows L) ≡ true → (o : Option Spot) → NoBetter (spot_at (path_at rows) p M l) o → NoBetter (spot_at (path_at rows) p L l) o
unfolding spot_at spot_with offer
met_no_better rows p M L l is_legal below earlier meet o h =
    let one = lines_through_one rows is_legal l M L below earlier meet in
    let m = product (take l (path_at rows L)) in
    let d = divisor p m (row_of l (path_at rows L)).weight in
    other_line M L l m (sum (take l (path_at rows L))) d (divides m p) (class_on_path (path_at rows) (path_at rows L) l d) o
    (rw (one.rows_above, one.weight_is, same_class (path_at rows) (path_at rows M) (path_at rows L) l _ meet) at h)
