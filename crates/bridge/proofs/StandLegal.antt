-- A legal tree stays legal when one more line is put into it. A root of weight 1 has one line and nothing else.
-- Assumes nothing.
use Prim.Native.Nat.{ℕ, ◌≤◌}
use native.Mathlib.Omega.{arith}
use native.Mathlib.Nat.{one-mul}
use mathlib.Core.Path.{◌≡◌, refl, sym, ◌∙◌, ap, subst}
use mathlib.Core.Logic.{inl, inr}
use mathlib.Core.Bool.{true, false, false≢true, true≢false}
use mathlib.Core.List.{List, [], ◌∷◌}
use Rattle.tree.specs.declared.Row.{Row}
use Rattle.tree.specs.Tree.{Tree, nothing, line, node, present, row}
use Rattle.tree.specs.Opening.{one_edge}
use Rattle.tree.specs.Shape.{LegalUnder, Legal}
use Rattle.tree.specs.Record.{path_in_range, no_rows, stand}
use Rattle.tree.proofs.Searching.{some_below_true}
use Rattle.tree.proofs.Proper.{Proper}
use Rattle.bridge.proofs.Parting.{Parted, parted_weight, parted_below, not_parted_from_line, no_rows_empty_tree}
use Rattle.bridge.proofs.Stand.{stand_legal}
use Rattle.paths.proofs.RangeLaws.{alone_or_in_range, period_in_range, row_in_range}

-- a tree into which a line goes under a root of weight 1 is empty
only_under_root_1 : (n : ℕ) (t : Tree) → Parted n (row 1 0 ∷ []) t → t ≡ nothing
unfolding Proper present
only_under_root_1 n nothing p = refl
only_under_root_1 n (line k) p = absurd (not_parted_from_line n k (row 1 0 ∷ []) p)
only_under_root_1 n (node w f) p =
    let x = some_below_true w _ p.proper.1.not_empty in
    let below = x.1 in
    let weight = parted_weight n (row 1 0) [] w f p in
    let edge : x.0 ≡ 0 = omega arith in
    absurd (false≢true (ap present (sym (no_rows_empty_tree n (f 0) (parted_below n (row 1 0) [] w f p))) ∙ ap (λ (e : ℕ). present (f e)) (sym edge) ∙ x.2))

stand_alone : (n : ℕ) (t : Tree) → n ≤ 63 → Parted n (row 1 0 ∷ []) t → Legal (stand n (row 1 0 ∷ []) t)
unfolding stand one_edge Legal
stand_alone n t number p =
    subst (λ (s : Tree). Legal (stand n (row 1 0 ∷ []) s)) (sym (only_under_root_1 n t p))
    (inr record { number = n; number_in_range = number; tree = refl })

-- a tree into which a line goes under a root of weight 2 or more has no root of weight 1
no_root_1 : (n : ℕ) (r : Row) (rs : List Row) (t : Tree) → 2 ≤ r.weight → Parted n (r ∷ rs) t → Legal t → LegalUnder 1 t
unfolding Legal LegalUnder one_edge
no_root_1 n r rs nothing two p h = tt
no_root_1 n r rs (line k) two p h = absurd h
no_root_1 n r rs (node w f) two p (inl h) = h
no_root_1 n r rs (node w f) two p (inr h) =
    let weight = parted_weight n r rs 1 _ (subst (Parted n (r ∷ rs)) h.tree p) in
    absurd (omega arith)

stand_root : (n : ℕ) (r : Row) (rs : List Row) (t : Tree) → Legal t → LegalUnder 1 (stand n (r ∷ rs) t) → Legal (stand n (r ∷ rs) t)
unfolding stand Legal
stand_root n r rs nothing h k = inl k
stand_root n r rs (line m) h k = absurd h
stand_root n r rs (node w f) h k = inl k

pub stand_keeps_legal : (n : ℕ) (rs : List Row) (t : Tree) → n ≤ 63 → no_rows rs ≡ false → path_in_range rs ≡ true → Parted n rs t → Legal t → Legal (stand n rs t)
unfolding no_rows
stand_keeps_legal n [] t number some_rows in_range p h = absurd (true≢false some_rows)
stand_keeps_legal n (r ∷ rs) t number some_rows in_range p h =
    elim (alone_or_in_range (r ∷ rs) in_range) [
      | inl one ↦ subst (λ (qs : List Row). Parted n qs t → Legal (stand n qs t)) (sym one) (stand_alone n t number) p
      | inr range ↦ stand_root n r rs t h (stand_legal n 1 (r ∷ rs) t number range (rw one-mul (period_in_range (r ∷ rs) in_range)) p (no_root_1 n r rs t (row_in_range r rs range).0 p h))
    ]
