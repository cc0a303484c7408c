-- The path of a line that has a root of weight 1 to itself (`alone`, specs/Record.antt).
-- Assumes nothing.
use Prim.Native.Nat.{ℕ}
use mathlib.Core.Path.{◌≡◌, refl, ap₂}
use mathlib.Core.Bool.{true, false, false≢true, and-eq-true_iff}
use mathlib.Core.List.{List, [], ◌∷◌}
use lib.Dec.{eqb}
use borrow.Author.Tests.{eqb-true, ne_eqb}
use Rattle.tree.specs.declared.Row.{Row}
use Rattle.tree.specs.Tree.{row}
use Rattle.tree.specs.Record.{alone}

pub alone_row : (rs : List Row) → alone rs ≡ true → rs ≡ row 1 0 ∷ []
unfolding alone
alone_row [] h = absurd (false≢true h)
alone_row (r ∷ []) h =
    let both = (and-eq-true_iff (eqb r.weight 1) (eqb r.edge 0)).0 h in
    ap₂ (λ (w e : ℕ). row w e ∷ []) (eqb-true _ _ both.0) (eqb-true _ _ both.1)
alone_row (r ∷ s ∷ rs) h = absurd (false≢true h)

pub not_alone_by_weight : (r : Row) (rs : List Row) → (r.weight ≡ 1 → ⊥) → alone (r ∷ rs) ≡ false
unfolding alone
not_alone_by_weight r [] other = rw (ne_eqb _ _ other)
not_alone_by_weight r (s ∷ rs) other = refl
