-- What holds of a spot where a line may be opened: its numbers are in range, and there are rows left for what is written.
-- Assumes nothing.
use Prim.Native.Nat.{ℕ, zero, suc, ◌*◌, ◌/◌, ◌<◌, ◌≤◌}
use native.Mathlib.Omega.{arith}
use native.Mathlib.Nat.{mul_assoc, le-mul_of_pos_right, one-mul, zero-mul, eq-zero-or-pos}
use mathlib.Core.Path.{◌≡◌, refl, sym, ◌∙◌, ap, subst}
use mathlib.Core.Logic.{◌⊎◌, inl, inr}
use mathlib.Core.Bool.{true}
use mathlib.Core.List.{List, [], ◌∷◌}
use borrow.Author.Tests.{lt-ltb}
use lib.ListN.{length, take}
use Rattle.tree.specs.declared.Row.{Row}
use Rattle.tree.specs.declared.Plan.{Plan}
use Rattle.tree.specs.Tree.{Tree, at, way, step}
use Rattle.tree.specs.Opening.{class_at, opened}
use Rattle.tree.specs.Record.{path_at, legal, tree_of}
use Rattle.paths.specs.Rules.{row_of, same_node, Spot, place_of, split_path, booked_path}
use Rattle.tree.proofs.Proper.{legal_proper}
use Rattle.tree.proofs.Depth.{at_most_11_above}
use Rattle.tree.proofs.BookingAt.{Fit, FitIn}
use Rattle.tree.proofs.Opening.{MayOpen, chosen_fits, opened_legal}
use Rattle.paths.proofs.SameNode.{same_node_goes_on}
use Rattle.bridge.proofs.ClassOnPaths.{family_path}
use Rattle.bridge.proofs.SearchOnPaths.{FoundSpot}
use Rattle.bridge.proofs.TreeOfRecord.{tree_of_paths}
use Rattle.bridge.proofs.BookedRecord.{through_path, new_line_path}

split_path_length : (l d : ℕ) (rs : List Row) → l < length rs → length (split_path l d rs) ≡ suc (length rs)
unfolding split_path
split_path_length l d [] h = absurd (omega arith)
split_path_length zero d (r ∷ rs) h = refl
split_path_length (suc l) d (r ∷ rs) h = ap suc (split_path_length l d rs (omega arith))

module _ (plan : Plan) (L p : ℕ) (s : Spot) (is_legal : legal plan.rows ≡ true) (long : length plan.rows ≡ 1408)
    (may : MayOpen L p (tree_of plan)) (found_spot : FoundSpot p (tree_of plan) (path_at plan.rows) s) where
  abbrev t : Tree
  t = tree_of plan

  abbrev ps : List Row
  ps = path_at plan.rows s.line

  abbrev weight : ℕ
  weight = (row_of s.level ps).weight

  -- the node has room
  fit : Fit p (step (place_of s) t) weight found_spot.node.0 (class_at p t (place_of s))
  unfolding step way at FitIn
  fit =
      subst (λ (x : Tree). FitIn p (step (place_of s) t) (class_at p t (place_of s)) x) found_spot.node.1
      (rw one-mul at (chosen_fits p t (place_of s) may.period_positive (legal_proper t may.legal) found_spot.chosen_is))

  pub divisor_positive : 0 < s.divisor
  divisor_positive = rw found_spot.divisor_is fit.room.divisor_positive

  -- the weights multiply to the period
  pub factors_are : s.step * (s.divisor * (p / (s.step * s.divisor))) ≡ p
  factors_are = let factors = fit.period_is in cc

  quotient_positive : 0 < p / (s.step * s.divisor)
  unfolding place_of
  quotient_positive = rw (found_spot.step_is, found_spot.divisor_is) fit.room.quotient_positive

  pub product_at_most : s.step * s.divisor ≤ p
  product_at_most =
      let most = le-mul_of_pos_right (s.step * s.divisor) quotient_positive in
      let factors = mul_assoc s.step s.divisor (p / (s.step * s.divisor)) ∙ factors_are in
      omega arith

  pub product_positive : 0 < s.step * s.divisor
  product_positive = by_zero (eq-zero-or-pos (s.step * s.divisor))
    where
      by_zero : (s.step * s.divisor ≡ 0) ⊎ (0 < s.step * s.divisor) → 0 < s.step * s.divisor
      by_zero (inr h) = h
      by_zero (inl z) =
          let none : p ≡ 0 = sym factors_are ∙ sym (mul_assoc s.step s.divisor (p / (s.step * s.divisor))) ∙ ap (λ (n : ℕ). n * (p / (s.step * s.divisor))) z ∙ zero-mul (p / (s.step * s.divisor)) in
          let positive = may.period_positive in
          absurd (omega arith)

  -- a line through the node has a row left where the node is split
  pub row_left : (M : ℕ) → M < 64 → same_node s.level ps (path_at plan.rows M) ≡ true → s.divisor < weight → length (path_at plan.rows M) < 11
  row_left M below through small =
      let rs = path_at plan.rows M in
      let reaches = (same_node_goes_on s.level ps rs through).1 in
      let after = through_path plan L p s is_legal long may found_spot M rs (family_path t (path_at plan.rows) (tree_of_paths plan is_legal) M s.level below reaches) through in
      let split = rw (lt-ltb s.divisor weight small) at after in
      let most = at_most_11_above (opened L p t) M (split_path s.level s.divisor rs) (opened_legal L p t may) split in
      let longer = split_path_length s.level s.divisor rs reaches in
      omega arith

  -- the new line's path has at most 11 rows
  pub rows_fit : length (booked_path (take s.level ps) s.divisor s.class (p / (s.step * s.divisor))) ≤ 11
  rows_fit = at_most_11_above (opened L p t) L _ (opened_legal L p t may) (new_line_path plan L p s is_legal long may found_spot)
