-- The program's record of a plan, the tree that it stands for, and the record of a tree.
-- Row k of line L is the pair of numbers at 22·L + 2·k. A line's path is its rows up to the first of weight 0; a closed line has none.
-- Assumes nothing.
use Rattle.std.specs.Prelude.{ℕ, zero, suc, ◌+◌, ◌*◌, Bool, true, false, not, ◌&&◌, ◌||◌, List, [], ◌∷◌, ◌++◌, eqb, ltb, leb, length, get_or, if◌then◌else◌}
use Rattle.tree.specs.declared.Row.{Row}
use Rattle.tree.specs.declared.Plan.{Plan}
use Rattle.tree.specs.Search.{all_below}
use Rattle.tree.specs.Tree.{Tree, nothing, line, node, row, product, path_of}
use Rattle.tree.specs.Opening.{put}
use Rattle.tree.specs.Asking.{rows_11}

-- Paths in the record

unfoldable pub row_at : List ℕ → ℕ → ℕ → Row
row_at rows L k = row (get_or rows (22 * L + 2 * k) 0) (get_or rows (22 * L + 2 * k + 1) 0)

-- the rows of line L from row k on, n of them at most, up to the first of weight 0
unfoldable pub path_from : List ℕ → ℕ → ℕ → ℕ → List Row
path_from rows L k zero = []
path_from rows L k (suc n) =
    if eqb (row_at rows L k).weight 0 then [] else (row_at rows L k ∷ path_from rows L (suc k) n)

unfoldable pub path_at : List ℕ → ℕ → List Row
path_at rows L = path_from rows L 0 11

-- Legality: which records are trees

-- (The tree, 4, 15) Each weight is at least 2 and each edge below its weight.
unfoldable pub rows_in_range : List Row → Bool
rows_in_range [] = true
rows_in_range (r ∷ rs) = leb 2 r.weight && (ltb r.edge r.weight && rows_in_range rs)

-- (The tree, 15) The path of a line that has a root of weight 1 to itself.
unfoldable pub alone : List Row → Bool
alone [] = false
alone (r ∷ []) = eqb r.weight 1 && eqb r.edge 0
alone (r ∷ s ∷ rs) = false

-- (The tree, 2, 16) The period is at most 4,095 too. A closed line's path, which has no rows, is in range.
unfoldable pub path_in_range : List Row → Bool
path_in_range rs = (alone rs || rows_in_range rs) && leb (product rs) 4095

-- both numbers of a row are 0
unfoldable pub unused : Row → Bool
unused r = eqb r.weight 0 && eqb r.edge 0

-- a line's rows are its path and then unused ones, so that equal trees are equal records
unfoldable pub rest_unused : List ℕ → ℕ → Bool
rest_unused rows L = all_below 11 (λ k. ltb k (length (path_at rows L)) || unused (row_at rows L k))

-- (The tree, 16) Two paths go through the same nodes until they part under different edges of one: no two lines at one place, and a line under no line.
unfoldable pub parts : List Row → List Row → Bool
parts [] qs = false
parts (p ∷ ps) [] = false
parts (p ∷ ps) (q ∷ qs) = eqb p.weight q.weight && (not (eqb p.edge q.edge) || parts ps qs)

unfoldable pub no_rows : List Row → Bool
no_rows [] = true
no_rows (r ∷ rs) = false

-- two lines go together in one tree: one of them is closed, or their paths part
unfoldable pub together : List Row → List Row → Bool
together ps qs = no_rows ps || (no_rows qs || parts ps qs)

-- (The tree, 16) The record is a tree.
unfoldable pub legal : List ℕ → Bool
legal rows =
    all_below 64 (λ L. path_in_range (path_at rows L) && rest_unused rows L)
    && all_below 64 (λ L. all_below L (λ M. together (path_at rows M) (path_at rows L)))

-- The tree of a record

-- the tree with line L at the end of the given path
unfoldable pub stand : ℕ → List Row → Tree → Tree
stand L [] t = line L
stand L (r ∷ rs) nothing = node r.weight (put r.edge (stand L rs nothing) (λ e. nothing))
stand L (r ∷ rs) (line n) = line n
stand L (r ∷ rs) (node w f) = node w (put r.edge (stand L rs (f r.edge)) f)

-- the tree of the lines below n
unfoldable pub grown : List ℕ → ℕ → Tree
grown rows zero = nothing
grown rows (suc n) = if no_rows (path_at rows n) then grown rows n else stand n (path_at rows n) (grown rows n)

-- (The tree, 14, 16) The tree of a plan record. A record that is no tree counts as the empty plan.
unfoldable pub tree_of : Plan → Tree
tree_of plan = if legal plan.rows then grown plan.rows 64 else nothing

-- The record of a tree

-- weight and edge of each row in turn
unfoldable pub numbers : List Row → List ℕ
numbers [] = []
numbers (r ∷ rs) = r.weight ∷ r.edge ∷ numbers rs

-- the numbers of the lines below n
unfoldable pub numbers_below : ℕ → Tree → List ℕ
numbers_below zero t = []
numbers_below (suc n) t = numbers_below n t ++ numbers (rows_11 (path_of n t))

unfoldable pub record_of : Tree → Plan
record_of t = record { rows = numbers_below 64 t }
