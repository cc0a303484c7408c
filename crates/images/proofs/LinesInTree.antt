-- Lines in rising number. With the paths that they have in a legal tree they are legal lines, and the lines of a tree are such lines.
-- Assumes nothing.
use Prim.Native.Nat.{ℕ, zero, suc, ◌<◌, ◌≤◌}
use native.Mathlib.Omega.{arith}
use mathlib.Core.Path.{◌≡◌, refl, sym, ◌∙◌, ap, subst}
use mathlib.Core.Bool.{true, ◌&&◌, and-true, and_assoc, and-eq-true_iff}
use mathlib.Core.List.{List, [], ◌∷◌, ◌++◌, append-nil}
use Rattle.std.specs.Prelude.{Option, None, Some}
use Rattle.std.specs.List.{All}
use Rattle.std.proofs.lemmas.List.Elements.{All-nil, All-head, All-tail, All-push}
use lib.Dec.{leb}
use borrow.Author.Tests.{leb-true, le-leb}
use Rattle.tree.specs.declared.Row.{Row}
use Rattle.tree.specs.Tree.{Tree, path}
use Rattle.tree.specs.Shape.{Legal}
use Rattle.tree.specs.Image.{PlanLine, lines_below}
use Rattle.tree.specs.ImageReading.{rising, paths_in_range, parts_from, paths_part, legal_lines}
use Rattle.bridge.proofs.LegalPaths.{legal_path_in_range, paths_part as two_paths_part}

-- Rising numbers

pub rising_line : (least : ℕ) (x : PlanLine) (xs : List PlanLine) → rising least (x ∷ xs) ≡ true → (least ≤ x.number) × (rising (suc x.number) xs ≡ true)
unfolding rising
rising_line least x xs h =
    let both = (and-eq-true_iff (leb least x.number) _).0 h in
    (leb-true _ _ both.0, both.1)

-- the smallest number that the line behind these may have
unfoldable pub least_behind : ℕ → List PlanLine → ℕ
least_behind least [] = least
least_behind least (x ∷ xs) = least_behind (suc x.number) xs

pub least_behind_more : (least : ℕ) (xs : List PlanLine) (x : PlanLine) → least_behind least (xs ++ (x ∷ [])) ≡ suc x.number
unfolding least_behind
least_behind_more least [] x = refl
least_behind_more least (y ∷ ys) x = least_behind_more (suc y.number) ys x

pub rising_more : (least : ℕ) (xs : List PlanLine) (x : PlanLine) → rising least (xs ++ (x ∷ [])) ≡ rising least xs && leb (least_behind least xs) x.number
unfolding rising least_behind
rising_more least [] x = and-true (leb least x.number)
rising_more least (y ∷ ys) x = rw (rising_more (suc y.number) ys x) (sym (and_assoc (leb least y.number) _ _))

-- Lines that stand in a tree

-- the line has its path in the tree
abbrev pub InTree : Tree → PlanLine → Type 0
InTree t x = path x.number t ≡ Some x.path

module _ (t : Tree) (is_legal : Legal t) where
  in_tree_in_range : (xs : List PlanLine) → All (InTree t) xs → paths_in_range xs ≡ true
  unfolding paths_in_range
  in_tree_in_range [] h = refl
  in_tree_in_range (x ∷ xs) h =
      rw (legal_path_in_range t x.number x.path is_legal (All-head (InTree t) x xs h)) (in_tree_in_range xs (All-tail (InTree t) x xs h))

  -- a line's path parts from those of lines with greater numbers
  in_tree_parts_from : (x : PlanLine) (least : ℕ) (xs : List PlanLine) → InTree t x → x.number < least → rising least xs ≡ true → All (InTree t) xs → parts_from x.path xs ≡ true
  unfolding parts_from
  in_tree_parts_from x least [] here before rise h = refl
  in_tree_parts_from x least (y ∷ ys) here before rise h =
      let later = rising_line least y ys rise in
      let from = later.0 in
      rw (two_paths_part t x.number y.number x.path y.path (λ same. omega arith) here (All-head (InTree t) y ys h))
      (in_tree_parts_from x (suc y.number) ys here (omega arith) later.1 (All-tail (InTree t) y ys h))

  in_tree_part : (least : ℕ) (xs : List PlanLine) → rising least xs ≡ true → All (InTree t) xs → paths_part xs ≡ true
  unfolding paths_part
  in_tree_part least [] rise h = refl
  in_tree_part least (x ∷ xs) rise h =
      let later = (rising_line least x xs rise).1 in
      let rest = All-tail (InTree t) x xs h in
      rw (in_tree_parts_from x (suc x.number) xs (All-head (InTree t) x xs h) (omega arith) later rest) (in_tree_part (suc x.number) xs later rest)

  pub in_tree_legal : (xs : List PlanLine) → rising 0 xs ≡ true → All (InTree t) xs → legal_lines xs ≡ true
  unfolding legal_lines
  in_tree_legal xs rise h = rw (rise, in_tree_in_range xs h, in_tree_part 0 xs rise h)

-- The lines of a tree

-- the line of this number, where it has a path
abbrev pub line_with : ℕ → Option (List Row) → List PlanLine
line_with n o = elim o [ None ↦ [] | Some rs ↦ record { number = n; path = rs } ∷ [] ]

module _ (t : Tree) where
  pub lines_in_tree : (n : ℕ) → All (InTree t) (lines_below n t)
  unfolding lines_below
  lines_in_tree zero = All-nil (InTree t)
  lines_in_tree (suc n) = by_path (path n t) refl (lines_in_tree n)
    where
      by_path : (o : Option (List Row)) → path n t ≡ o → All (InTree t) (lines_below n t) → All (InTree t) (lines_below n t ++ line_with n o)
      by_path None e earlier = subst (All (InTree t)) (sym (append-nil (lines_below n t))) earlier
      by_path (Some rs) e earlier = All-push (InTree t) (lines_below n t) (record { number = n; path = rs }) earlier e

  -- the line of number n may stand behind those below it
  least_behind_below : (n : ℕ) → least_behind 0 (lines_below n t) ≤ n
  unfolding lines_below least_behind
  least_behind_below zero = omega arith
  least_behind_below (suc n) = by_path (path n t) (least_behind_below n)
    where
      by_path : (o : Option (List Row)) → least_behind 0 (lines_below n t) ≤ n → least_behind 0 (lines_below n t ++ line_with n o) ≤ suc n
      by_path None earlier = rw (append-nil (lines_below n t)) (omega arith)
      by_path (Some rs) earlier = omega (arith, least_behind_more 0 (lines_below n t) (record { number = n; path = rs }))

  pub lines_rise : (n : ℕ) → rising 0 (lines_below n t) ≡ true
  unfolding lines_below rising
  lines_rise zero = refl
  lines_rise (suc n) = by_path (path n t) (lines_rise n)
    where
      by_path : (o : Option (List Row)) → rising 0 (lines_below n t) ≡ true → rising 0 (lines_below n t ++ line_with n o) ≡ true
      by_path None rise = ap (rising 0) (append-nil (lines_below n t)) ∙ rise
      by_path (Some rs) rise = rw (rising_more 0 (lines_below n t) (record { number = n; path = rs }), rise) (le-leb _ n (least_behind_below n))
