-- What joining keeps, at any nodes and any number of times (`joined_up`, specs/Closing.antt): every line keeps its period and start, and the tree stays legal.
-- Assumes nothing.
use Prim.Native.Nat.{ℕ, zero, suc, ◌≤◌, ◌*◌}
use native.Mathlib.Omega.{arith}
use native.Mathlib.Nat.{mul-zero, le-mul_of_pos_right}
use native.Mathlib.Decide.{ℕ_discrete}
use mathlib.Core.Path.{◌≡◌, refl, sym, ◌∙◌, ap, subst, fun_ext}
use mathlib.Core.Logic.{inl, inr}
use mathlib.Core.Bool.{true}
use mathlib.Core.List.{List, [], ◌∷◌}
use Rattle.tree.specs.declared.Row.{Row}
use Rattle.tree.specs.Search.{some_below}
use Rattle.tree.specs.Tree.{Tree, nothing, line, node, present, is_open}
use Rattle.tree.specs.Standing.{Stands}
use Rattle.tree.specs.Opening.{put}
use Rattle.tree.specs.Shape.{Edges, LegalUnder, Legal}
use Rattle.tree.specs.Closing.{joined_with, join, join_times, join_fully, joined_up}
use Rattle.tree.proofs.UnderEdge.{absent_nothing}
use Rattle.tree.proofs.Standing.{open_stands, stands_open}
use Rattle.tree.proofs.Put.{put_same, put_other, put_each, put_present, put_stands, under_put_edge, stands_put_keeps}
use Rattle.tree.proofs.Joining.{stands_joined, joined_stands, joined_legal, join_either}

-- From t to u every line keeps its period and its start, and the tree stays legal.
pub record Kept (t u : Tree) : Type 0 where
  pub presence : present u ≡ present t
  pub stands : (M p s : ℕ) → Stands M t p s → Stands M u p s
  pub stood : (M p s : ℕ) → Stands M u p s → Stands M t p s
  pub legal : (m : ℕ) → LegalUnder m t → LegalUnder m u

pub kept_itself : (t : Tree) → Kept t t
kept_itself t = record { presence = refl; stands = λ M p s h. h; stood = λ M p s h. h; legal = λ m h. h }

pub join_keeps : (t : Tree) → Kept t (join t)
unfolding present joined_with
join_keeps t = join_either (Kept t) t (kept_itself t) λ w v f is one. subst (λ (x : Tree). Kept x (joined_with v w f)) (sym is) record {
  presence = refl;
  stands = stands_joined w v f one;
  stood = joined_stands w v f one;
  legal = joined_legal w v f one;
}

pub kept_next : (t u v : Tree) → Kept t u → Kept u v → Kept t v
kept_next t u v a b = record {
  presence = b.presence ∙ a.presence;
  stands = λ M p s h. b.stands M p s (a.stands M p s h);
  stood = λ M p s h. a.stood M p s (b.stood M p s h);
  legal = λ m h. b.legal m (a.legal m h);
}

-- Something else under one edge of a node

module _ (w i : ℕ) (f : ℕ → Tree) (t : Tree) (kept : Kept (f i) t) where
  put_open : (L e : ℕ) → is_open L (put i t f e) ≡ true → is_open L (f e) ≡ true
  put_open L e h = elim (ℕ_discrete e i) [
    | yes same ↦ ap (λ (k : ℕ). is_open L (f k)) same ∙ stands_open L (f i) _ _ (kept.stood L _ _ (open_stands L t (ap (is_open L) (sym (put_same i e t f same)) ∙ h)))
    | no other ↦ ap (is_open L) (sym (put_other i e t f other)) ∙ h
  ]

  put_stood : (M p s : ℕ) → Stands M (node w (put i t f)) p s → Stands M (node w f) p s
  put_stood M p s h = elim (put_stands M w i t f p s h) [
    | inl x ↦ unfold Stands in under_put_edge x (kept.stood M x.period x.start x.stands)
    | inr x ↦ unfold Stands in x.in_node
  ]

  put_edges_kept : Edges w f → Edges w (put i t f)
  unfolding present
  put_edges_kept edges = record {
    below_weight = λ e beyond. absent_nothing _ (put_present i t f kept.presence e ∙ ap present (edges.below_weight e beyond));
    not_empty = ap (some_below w) (fun_ext (put_present i t f kept.presence)) ∙ edges.not_empty;
    line_once = λ L e k a b. edges.line_once L e k (put_open L e a) (put_open L k b);
  }

  pub put_keeps : Kept (node w f) (node w (put i t f))
  unfolding present LegalUnder
  put_keeps = record {
    presence = refl;
    stands = λ M p s. stands_put_keeps M w i t f p s (λ q u. kept.stands M q u);
    stood = put_stood;
    legal = λ m h. (h.0, put_edges_kept h.1, put_each (LegalUnder (m * w)) i t f (kept.legal (m * w) (h.2 i)) (λ e other. h.2 e));
  }

-- What each join keeps, joining keeps

-- a relation of a tree with what it becomes, which holds of each join, and then of several one after another, at any node
pub record OfJoins (R : Tree → Tree → Type 0) : Type 0 where
  pub itself : (t : Tree) → R t t
  pub next : (t u v : Tree) → R t u → R u v → R t v
  pub under_an_edge : (w i : ℕ) (f : ℕ → Tree) (t : Tree) → R (f i) t → R (node w f) (node w (put i t f))
  pub once : (t : Tree) → R t (join t)

module _ (R : Tree → Tree → Type 0) (holds : OfJoins R) where
  pub join_times_has : (n : ℕ) (t : Tree) → R t (join_times n t)
  unfolding join_times
  join_times_has zero t = holds.itself t
  join_times_has (suc n) t = holds.next t (join t) (join_times n (join t)) (holds.once t) (join_times_has n (join t))

  pub joined_up_has : (rs : List Row) (t : Tree) → R t (joined_up rs t)
  unfolding joined_up join_fully
  joined_up_has [] t = holds.itself t
  joined_up_has (r ∷ rs) nothing = holds.itself nothing
  joined_up_has (r ∷ rs) (line n) = holds.itself (line n)
  joined_up_has (r ∷ rs) (node w f) =
      holds.next (node w f) (node w (put r.edge (joined_up rs (f r.edge)) f)) _
      (holds.under_an_edge w r.edge f (joined_up rs (f r.edge)) (joined_up_has rs (f r.edge))) (join_times_has 10 _)

pub kept_of_joins : OfJoins Kept
kept_of_joins = record { itself = kept_itself; next = kept_next; under_an_edge = put_keeps; once = join_keeps }

pub joined_up_keeps : (rs : List Row) (t : Tree) → Kept t (joined_up rs t)
joined_up_keeps = joined_up_has Kept kept_of_joins

-- A whole tree stays legal too

-- a line under a node of weight 2 or more has not period 1
no_line_of_period_1 : (w p : ℕ) → 2 ≤ w → 1 ≡ w * p → ⊥
no_line_of_period_1 w zero two h = omega (arith, mul-zero w)
no_line_of_period_1 w (suc p) two h = omega (arith, le-mul_of_pos_right {m = suc p} w (omega arith))

-- what becomes of a node is no line
no_line_left : (t : Tree) (n : ℕ) → Kept t (line n) → LegalUnder 1 t → Legal t → ⊥
unfolding Stands LegalUnder Legal
no_line_left nothing n kept under legal = kept.stood n 1 0 (refl, refl, refl)
no_line_left (line k) n kept under legal = legal
no_line_left (node w f) n kept under legal =
    let x = kept.stood n 1 0 (refl, refl, refl) in
    no_line_of_period_1 w x.period under.0 x.period_is

pub kept_legal : (t u : Tree) → Kept t u → LegalUnder 1 t → Legal t → Legal u
unfolding Legal LegalUnder
kept_legal t nothing kept under legal = tt
kept_legal t (line n) kept under legal = no_line_left t n kept under legal
kept_legal t (node w f) kept under legal = inl (kept.legal 1 under)
