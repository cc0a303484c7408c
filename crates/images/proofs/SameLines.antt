-- A legal tree is determined by its lines: in their list each has the path that it has in the tree.
-- Assumes nothing.
use Prim.Native.Nat.{ℕ, zero, suc, ◌<◌, ◌≤◌}
use native.Mathlib.Omega.{arith}
use native.Mathlib.Decide.{dec_lt}
use mathlib.Core.Path.{◌≡◌, refl, sym, ◌∙◌, ap, ap₂}
use mathlib.Core.Bool.{Bool, true, false}
use mathlib.Core.Logic.{inl, inr}
use mathlib.Core.List.{List, [], ◌∷◌, ◌++◌}
use Rattle.std.specs.Prelude.{if◌then◌else◌, Option, None, Some}
use lib.Dec.{eqb}
use borrow.Author.Tests.{eq-eqb, ne_eqb}
use Rattle.tree.specs.declared.Row.{Row}
use Rattle.tree.specs.Search.{or_else}
use Rattle.tree.specs.Tree.{Tree, path}
use Rattle.tree.specs.Shape.{Legal}
use Rattle.tree.specs.Image.{PlanLine, lines_below}
use Rattle.tree.proofs.Searching.{last_or_below}
use Rattle.tree.proofs.Proper.{legal_proper}
use Rattle.bridge.proofs.SameTree.{same_paths_same_tree}
use Rattle.bridge.proofs.RecordRoundTrip.{beyond_no_path}
use Rattle.images.proofs.LinesInTree.{line_with}

-- the path that line M has in a list
path_in : ℕ → List PlanLine → Option (List Row)
path_in M [] = None
path_in M (x ∷ xs) = if eqb x.number M then Some x.path else path_in M xs

path_in_append : (M : ℕ) (xs ys : List PlanLine) → path_in M (xs ++ ys) ≡ or_else (path_in M xs) (path_in M ys)
unfolding path_in or_else
path_in_append M [] ys = refl
path_in_append M (x ∷ xs) ys = by_number (eqb x.number M) (path_in_append M xs ys)
  where
    by_number : (b : Bool) → path_in M (xs ++ ys) ≡ or_else (path_in M xs) (path_in M ys) →
        (if b then Some x.path else path_in M (xs ++ ys)) ≡ or_else (if b then Some x.path else path_in M xs) (path_in M ys)
    by_number true later = refl
    by_number false later = later

no_path_in_other : (M n : ℕ) (o : Option (List Row)) → (n ≡ M → ⊥) → path_in M (line_with n o) ≡ None
unfolding path_in
no_path_in_other M n None other = refl
no_path_in_other M n (Some rs) other = rw (ne_eqb n M other)

path_in_same : (M : ℕ) (o : Option (List Row)) → path_in M (line_with M o) ≡ o
unfolding path_in
path_in_same M None = refl
path_in_same M (Some rs) = rw (eq-eqb M M refl)

module _ (t : Tree) (M : ℕ) where
  path_in_beyond : (n : ℕ) → n ≤ M → path_in M (lines_below n t) ≡ None
  unfolding lines_below path_in or_else
  path_in_beyond zero beyond = refl
  path_in_beyond (suc n) beyond =
      path_in_append M (lines_below n t) (line_with n (path n t))
      ∙ ap₂ or_else (path_in_beyond n (omega arith)) (no_path_in_other M n (path n t) (λ same. omega arith))

  path_in_lines : (n : ℕ) → M < n → path_in M (lines_below n t) ≡ path M t
  unfolding lines_below or_else
  path_in_lines zero below = absurd (omega arith)
  path_in_lines (suc n) below =
      path_in_append M (lines_below n t) (line_with n (path n t))
      ∙ elim (last_or_below M n below) [
        | inl same ↦
            ap₂ or_else (path_in_beyond n (omega arith)) (ap (λ (k : ℕ). path_in M (line_with k (path k t))) (sym same) ∙ path_in_same M (path M t))
        | inr earlier ↦
            ap₂ or_else (path_in_lines n earlier) (no_path_in_other M n (path n t) (λ same. omega arith)) ∙ or_none (path M t)
      ]
    where
      or_none : (o : Option (List Row)) → or_else o None ≡ o
      or_none None = refl
      or_none (Some rs) = refl

pub same_lines_same_tree : (t s : Tree) → Legal t → Legal s → lines_below 64 t ≡ lines_below 64 s → t ≡ s
same_lines_same_tree t s legal_t legal_s same =
    same_paths_same_tree t s (legal_proper t legal_t) (legal_proper s legal_s) λ M.
    elim (dec_lt M 64) [
      | yes below ↦ sym (path_in_lines t M 64 below) ∙ ap (path_in M) same ∙ path_in_lines s M 64 below
      | no beyond ↦ beyond_no_path t M legal_t (omega arith) ∙ sym (beyond_no_path s M legal_s (omega arith))
    ]
