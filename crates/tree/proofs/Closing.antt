-- Closing a line (`closed`, specs/Closing.antt): exactly that line goes, every other keeps its period and start, the tree stays legal, and the last line leaves the empty plan.
-- Assumes nothing.
use Prim.Native.Nat.{ℕ}
use native.Mathlib.Decide.{ℕ_discrete}
use mathlib.Core.Path.{◌≡◌, refl, sym, ◌∙◌, ap, subst}
use mathlib.Core.Logic.{inl, inr}
use mathlib.Core.List.{List, [], ◌∷◌}
use Rattle.std.specs.Prelude.{Option, None, Some, unwrap_or}
use Rattle.tree.specs.declared.Row.{Row}
use Rattle.tree.specs.Tree.{Tree, nothing, line, node, path, path_of}
use Rattle.tree.specs.Standing.{Stands}
use Rattle.tree.specs.Shape.{LegalUnder, Alone, Legal}
use Rattle.tree.specs.Closing.{cleared, joined_up, closed}
use Rattle.tree.proofs.Put.{alone_line}
use Rattle.tree.proofs.Standing.{path_stands}
use Rattle.tree.proofs.Clearing.{cleared_stands, stands_cleared, last_line_cleared, cleared_legal_under, cleared_legal}
use Rattle.tree.proofs.JoinedUp.{joined_up_keeps, kept_legal}

-- Closing takes away exactly line L

pub closed_stands : (L M : ℕ) (t : Tree) (q u : ℕ) → Stands M (closed L t) q u → Stands M t q u × (M ≡ L → ⊥)
unfolding closed
closed_stands L M t q u h =
    cleared_stands L M t q u ((joined_up_keeps (path_of L t) (cleared L t)).stood M q u h)

pub stands_closed : (L M : ℕ) (t : Tree) (q u : ℕ) → Stands M t q u → (M ≡ L → ⊥) → Stands M (closed L t) q u
unfolding closed
stands_closed L M t q u h other =
    (joined_up_keeps (path_of L t) (cleared L t)).stands M q u (stands_cleared L M t q u h other)

-- A tree whose last line goes is the empty one

nothing_joined_up : (rs : List Row) → joined_up rs nothing ≡ nothing
unfolding joined_up
nothing_joined_up [] = refl
nothing_joined_up (r ∷ rs) = refl

pub last_line_closed : (L : ℕ) (t : Tree) → ((M q u : ℕ) → Stands M t q u → M ≡ L) → closed L t ≡ nothing
unfolding closed
last_line_closed L t only = rw (last_line_cleared L t only) (nothing_joined_up (path_of L t))

-- Where nothing is joined

-- where line L does not stand, nothing is joined
pub absent_line_joins_none : (L : ℕ) (t : Tree) → ((q u : ℕ) → Stands L t q u → ⊥) → closed L t ≡ cleared L t
unfolding closed path_of joined_up
absent_line_joins_none L t absent = go (path L t) refl
  where
    go : (o : Option (List Row)) → path L t ≡ o → closed L t ≡ cleared L t
    go None e = ap (λ (o : Option (List Row)). joined_up (unwrap_or o []) (cleared L t)) e
    go (Some rs) e = absurd (absent _ _ (path_stands L t rs e))

-- under a root of weight 1 there is nothing to join
pub alone_joins_none : (L : ℕ) (t : Tree) → Alone t → closed L t ≡ cleared L t
alone_joins_none L t alone =
    elim (ℕ_discrete alone.number L) [
      | yes e ↦
          let only : (M q u : ℕ) → Stands M t q u → M ≡ L = λ M q u s. (alone_line M t q u alone s).0 ∙ e in
          last_line_closed L t only ∙ sym (last_line_cleared L t only)
      | no other ↦ absent_line_joins_none L t λ q u s. other (sym (alone_line L t q u alone s).0)
    ]

-- The closed tree is legal

pub closed_legal : (L : ℕ) (t : Tree) → Legal t → Legal (closed L t)
unfolding Legal LegalUnder closed cleared
closed_legal L nothing h = subst Legal (sym (absent_line_joins_none L nothing λ q u s. unfold Stands in s)) (cleared_legal L nothing h)
closed_legal L (line n) h = absurd h
closed_legal L (node w f) (inl h) =
    let t = node w f in
    kept_legal (cleared L t) (closed L t) (joined_up_keeps (path_of L t) (cleared L t)) (cleared_legal_under L 1 t h) (cleared_legal L t (inl h))
closed_legal L (node w f) (inr h) =
    subst Legal (sym (alone_joins_none L (node w f) h)) (cleared_legal L (node w f) (inr h))
