-- The rules as the code follows them, over the paths of the lines. Nothing here has to be believed: that these are the rules
-- over the tree is proved (crate bridge).
-- Assumes nothing.
use Rattle.std.specs.Prelude.{ℕ, zero, suc, ◌+◌, ◌*◌, ◌/◌, ◌%◌, Bool, true, false, not, ◌&&◌, ◌||◌, List, [], ◌∷◌, ◌++◌, eqb, ltb, length, get_or, take, drop, if◌then◌else◌, Option, None, Some, option_map}
use Rattle.tree.specs.declared.Row.{Row}
use Rattle.tree.specs.Numbers.{divides}
use Rattle.tree.specs.Search.{passing, smallest, some_below, all_below, smaller_by, count_below}
use Rattle.tree.specs.Tree.{row, product, sum, Place}
use Rattle.tree.specs.Opening.{divisor}
use Rattle.tree.specs.Asking.{rows_11}
use Rattle.tree.specs.Reason.{Reason, step_does_not_divide, line_stands}
use Rattle.tree.specs.Refusals.{period_out_of_range}
use Rattle.tree.specs.Calls.{Outcome, gives, refuses}
use Rattle.tree.specs.Trial.{Trial}
use Rattle.tree.specs.Record.{path_at, no_rows, numbers}

-- the paths of the lines, by line number
abbrev pub Family : Type 0
Family = ℕ → List Row

-- the row at a level of a path, 0 and 0 beyond its end
unfoldable pub row_of : ℕ → List Row → Row
row_of l rs = get_or rs l (row 0 0)

-- two paths go through the same node at level l: the same edges so far, and both go on
unfoldable pub same_node : ℕ → List Row → List Row → Bool
same_node l [] qs = false
same_node l (p ∷ ps) [] = false
same_node zero (p ∷ ps) (q ∷ qs) = true
same_node (suc l) (p ∷ ps) (q ∷ qs) = eqb p.edge q.edge && same_node l ps qs

-- The chosen candidate, found on the paths

-- line M's path goes through the node at level l of path ps, and takes an edge of class i modulo d there
abbrev pub takes_class : Family → List Row → ℕ → ℕ → ℕ → ℕ → Bool
takes_class family ps l d i M = same_node l ps (family M) && eqb ((row_of l (family M)).edge % d) i

-- some line does
unfoldable pub class_taken : Family → List Row → ℕ → ℕ → ℕ → Bool
class_taken family ps l d i = some_below 64 (takes_class family ps l d i)

-- the smallest class that none takes
unfoldable pub class_on_path : Family → List Row → ℕ → ℕ → Option ℕ
class_on_path family ps l d = smallest d (λ i. not (class_taken family ps l d i))

-- a candidate found on the path of a line: its place and step, its divisor d and the class i taken
pub record Spot : Type 0 where
  pub line : ℕ
  pub level : ℕ
  pub offset : ℕ
  pub step : ℕ
  pub divisor : ℕ
  pub class : ℕ

unfoldable pub place_of : Spot → Place
place_of s = record { level = s.level; offset = s.offset }

-- the start r + i·m that it offers
unfoldable pub spot_start : Spot → ℕ
spot_start s = s.offset + s.class * s.step

-- what the node of step m and offset r at level l of line M's path has to offer
unfoldable pub spot_with : Family → ℕ → ℕ → ℕ → ℕ → ℕ → Option Spot
spot_with family p M l m r =
    let d = divisor p m (row_of l (family M)).weight in
    if divides m p then option_map (λ i. record { line = M; level = l; offset = r; step = m; divisor = d; class = i }) (class_on_path family (family M) l d) else None

unfoldable pub spot_at : Family → ℕ → ℕ → ℕ → Option Spot
spot_at family p M l = spot_with family p M l (product (take l (family M))) (sum (take l (family M)))

-- the best so far, and then of the levels below n of line M's path: the smallest start, the first of equal ones
unfoldable pub best_on_path : Family → ℕ → Option Spot → ℕ → ℕ → Option Spot
best_on_path family p so_far M zero = so_far
best_on_path family p so_far M (suc n) = smaller_by spot_start (best_on_path family p so_far M n) (spot_at family p M n)

-- the best over the lines below n
unfoldable pub best_of_lines : Family → ℕ → ℕ → Option Spot
best_of_lines family p zero = None
best_of_lines family p (suc n) = best_on_path family p (best_of_lines family p n) n (length (family n))

-- The booking, written into the record

-- the record with line L's rows replaced by a path and unused rows
unfoldable pub set_line : List ℕ → ℕ → List Row → List ℕ
set_line rows L rs = take (22 * L) rows ++ (numbers (rows_11 rs) ++ drop (22 * L + 22) rows)

-- a path whose node at level l was split by d
unfoldable pub split_path : ℕ → ℕ → List Row → List Row
split_path l d [] = []
split_path zero d (r ∷ rs) = row d (r.edge % d) ∷ row (r.weight / d) (r.edge / d) ∷ rs
split_path (suc l) d (r ∷ rs) = r ∷ split_path l d rs

-- the record with those lines below n that a test takes set to the paths of a family
unfoldable pub set_lines : List ℕ → (ℕ → Bool) → Family → ℕ → List ℕ
set_lines rows taken family zero = rows
set_lines rows taken family (suc n) = if taken n then set_line (set_lines rows taken family n) n (family n) else set_lines rows taken family n

-- the record with their own paths changed
abbrev pub change_lines : List ℕ → (ℕ → Bool) → (List Row → List Row) → ℕ → List ℕ
change_lines rows taken change = set_lines rows taken (λ M. change (path_at rows M))

-- the record with the node at level l of path ps split by d, on the lines below n
abbrev pub split_lines : List ℕ → List Row → ℕ → ℕ → ℕ → List ℕ
split_lines rows ps l d = change_lines rows (λ M. same_node l ps (path_at rows M)) (split_path l d)

-- the path of a line booked into class i of the node below the given rows
unfoldable pub booked_path : List Row → ℕ → ℕ → ℕ → List Row
booked_path above d i q = above ++ (row d i ∷ (if eqb q 1 then [] else (row q 0 ∷ [])))

-- the record with line L of period p booked at a spot
unfoldable pub booked_at : List ℕ → ℕ → ℕ → Spot → List ℕ
booked_at rows L p s =
    let ps = path_at rows s.line in
    let split = if ltb s.divisor (row_of s.level ps).weight then split_lines rows ps s.level s.divisor 64 else rows in
    set_line split L (booked_path (take s.level ps) s.divisor s.class (p / (s.step * s.divisor)))

-- A close, written into the record: nodes are joined

-- a path whose node at level l was joined with the one below it
unfoldable pub join_path : ℕ → List Row → List Row
join_path l [] = []
join_path zero (r ∷ []) = r ∷ []
join_path zero (r ∷ s ∷ rs) = row (r.weight * s.weight) (r.edge + r.weight * s.edge) ∷ rs
join_path (suc l) (r ∷ rs) = r ∷ join_path l rs

-- the one weight at level l + 1 of the lines that a test takes, none where one of them ends above it, or two differ there
unfoldable pub weight_below_on_paths : Family → (ℕ → Bool) → ℕ → Option ℕ
weight_below_on_paths family taken l =
    passing (λ v. not (eqb v 0) && all_below 64 (λ M. not (taken M) || eqb (row_of (suc l) (family M)).weight v))
    (option_map (λ M. (row_of (suc l) (family M)).weight) (smallest 64 taken))

-- A trial, over the paths

-- how many of the classes modulo d are taken by lines, at the node at level l of path ps
unfoldable pub classes_taken : Family → List Row → ℕ → ℕ → ℕ
classes_taken family ps l d = count_below d (class_taken family ps l d)

-- the nodes of weight q that a line gets for itself
unfoldable pub own_nodes : ℕ → ℕ
own_nodes q = if eqb q 1 then 0 else 1

-- the figures of a booking of period p at a spot: a node for each class taken where the node is split, and the line's own
unfoldable pub trial_at : Family → ℕ → Spot → Trial
trial_at family p s =
    let ps = family s.line in
    let is_split = ltb s.divisor (row_of s.level ps).weight in
    record {
      start = spot_start s;
      added = (if is_split then classes_taken family ps s.level s.divisor else 0) + own_nodes (p / (s.step * s.divisor));
      split = is_split;
    }

-- Asking, over the paths

-- the line of smallest number that takes edge e of the node at level l of path ps
unfoldable pub line_under : Family → List Row → ℕ → ℕ → Option ℕ
line_under family ps l e = smallest 64 (λ N. same_node l ps (family N) && eqb (row_of l (family N)).edge e)

-- the walk for round n from the node at level l of line M's path on, through at most so many nodes
unfoldable pub walk_on_paths : Family → ℕ → ℕ → ℕ → ℕ → Option ℕ
walk_on_paths family zero M l n = None
walk_on_paths family (suc left) M l n =
    elim (line_under family (family M) l (n % (row_of l (family M)).weight)) [
      | None ↦ None
      | Some N ↦ if eqb (length (family N)) (suc l) then Some N else walk_on_paths family left N (suc l) (n / (row_of l (family M)).weight)
    ]

-- the walk from the root, which every open line's path goes through
unfoldable pub owner_on_paths : Family → ℕ → Option ℕ
owner_on_paths family n =
    elim (smallest 64 (λ M. not (no_rows (family M)))) [ None ↦ None | Some M ↦ walk_on_paths family 11 M 0 n ]

-- A reason, over the paths

-- line M's path goes through the node at level l and offset r
unfoldable pub through_node : Family → ℕ → ℕ → ℕ → Bool
through_node family l r M = ltb l (length (family M)) && eqb (sum (take l (family M))) r

-- the line of smallest number whose path goes through that node
unfoldable pub line_through : Family → ℕ → ℕ → Option ℕ
line_through family l r = smallest 64 (through_node family l r)

-- the line of smallest number that takes an edge of class i of the node at level l of path ps
unfoldable pub line_of_class : Family → List Row → ℕ → ℕ → ℕ → Option ℕ
line_of_class family ps l d i = smallest 64 (takes_class family ps l d i)

-- the line that was found in a class, or the refusal where none was
unfoldable pub line_or_12 : Option ℕ → Outcome Reason
line_or_12 None = refuses 12
line_or_12 (Some N) = gives (line_stands N)

-- what is answered of class i of the node of step m at level l of line M's path
unfoldable pub reason_with : Family → ℕ → ℕ → ℕ → ℕ → ℕ → Outcome Reason
reason_with family p M l m i =
    let d = divisor p m (row_of l (family M)).weight in
    if divides m p then (if ltb i d then line_or_12 (line_of_class family (family M) l d i) else refuses 11) else gives step_does_not_divide

unfoldable pub reason_on_path : Family → ℕ → ℕ → ℕ → ℕ → Outcome Reason
reason_on_path family p M l i = reason_with family p M l (product (take l (family M))) i

-- what is answered of class i of the node at level l and offset r
unfoldable pub reason_on_paths : Family → ℕ → ℕ → ℕ → ℕ → Outcome Reason
reason_on_paths family p l r i =
    if period_out_of_range p then refuses 2 else elim (line_through family l r) [ None ↦ refuses 10 | Some M ↦ reason_on_path family p M l i ]
