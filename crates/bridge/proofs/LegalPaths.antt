-- The paths of a legal tree are in range, and those of two lines part, in any tree.
-- Assumes nothing.
use Prim.Native.Nat.{ℕ, ◌*◌, ◌≤◌}
use native.Mathlib.Nat.{one-mul, mul-one, mul_assoc}
use native.Mathlib.Decide.{ℕ_discrete}
use mathlib.Core.Path.{◌≡◌, refl, sym, ◌∙◌, ap}
use mathlib.Core.Logic.{inl, inr}
use mathlib.Core.Bool.{true, or-true}
use mathlib.Core.List.{List, ◌∷◌}
use Rattle.std.specs.Prelude.{Some}
use Rattle.std.proofs.lemmas.Option.{none-some}
use borrow.Author.Tests.{eq-eqb, ne_eqb, lt-ltb, le-leb}
use Rattle.tree.specs.declared.Row.{Row}
use Rattle.tree.specs.Tree.{Tree, nothing, line, node, row, product, path}
use Rattle.tree.specs.Shape.{LegalUnder, Legal}
use Rattle.tree.specs.Record.{rows_in_range, alone, path_in_range, parts}
use Rattle.tree.proofs.Standing.{path_of_line, path_below}
use Rattle.tree.proofs.Depth.{alone_path}

rows_under : (m : ℕ) (t : Tree) (M : ℕ) (rs : List Row) → LegalUnder m t → path M t ≡ Some rs → (rows_in_range rs ≡ true) × (m * product rs ≤ 4095)
unfolding LegalUnder path rows_in_range product
rows_under m nothing M rs legal h = absurd (none-some rs h)
rows_under m (line n) M rs legal h = let ends = (path_of_line M n rs h).1 in rw ends (refl, rw mul-one legal.1)
rows_under m (node w f) M rs legal h =
    let x = path_below M w f rs h in
    let below = rows_under (m * w) (f x.edge) M x.rest (legal.2 x.edge) x.path_is in
    rw x.rows_are (rw (le-leb 2 w legal.0, lt-ltb x.edge w x.edge_below) below.0, rw (← mul_assoc) below.1)

rows_path_in_range : (rs : List Row) → rows_in_range rs ≡ true → product rs ≤ 4095 → path_in_range rs ≡ true
unfolding path_in_range
rows_path_in_range rs range period = rw (range, or-true, le-leb (product rs) 4095 period)

pub legal_path_in_range : (t : Tree) (M : ℕ) (rs : List Row) → Legal t → path M t ≡ Some rs → path_in_range rs ≡ true
unfolding Legal path
legal_path_in_range nothing M rs legal h = absurd (none-some rs h)
legal_path_in_range (line n) M rs legal h = absurd legal
legal_path_in_range (node w f) M rs (inl legal) h =
    let range = rows_under 1 (node w f) M rs legal h in
    rows_path_in_range rs range.0 (rw one-mul at range.1)
legal_path_in_range (node w f) M rs (inr legal) h = rw (alone_path (node w f) M rs legal h) (unfold path_in_range alone product in refl)

-- two paths through one node part where those below do, or where the edges differ
parts_through : (w e k : ℕ) (rs qs : List Row) → (e ≡ k → parts rs qs ≡ true) → parts (row w e ∷ rs) (row w k ∷ qs) ≡ true
unfolding parts
parts_through w e k rs qs below =
    elim (ℕ_discrete e k) [
      | yes same ↦ rw (eq-eqb w w refl, below same, or-true)
      | no other ↦ rw (eq-eqb w w refl, ne_eqb e k other)
    ]

pub paths_part : (t : Tree) (M N : ℕ) (rs qs : List Row) → (M ≡ N → ⊥) → path M t ≡ Some rs → path N t ≡ Some qs → parts rs qs ≡ true
unfolding path
paths_part nothing M N rs qs other a b = absurd (none-some rs a)
paths_part (line n) M N rs qs other a b = absurd (other (sym (path_of_line M n rs a).0 ∙ (path_of_line N n qs b).0))
paths_part (node w f) M N rs qs other a b =
    let x = path_below M w f rs a in
    let y = path_below N w f qs b in
    rw (x.rows_are, y.rows_are)
    (parts_through w x.edge y.edge x.rest y.rest λ same.
    paths_part (f x.edge) M N x.rest y.rest other x.path_is (ap (λ (e : ℕ). path N (f e)) same ∙ y.path_is))
