-- What the laws need of a tree: in every node a weight above 0, and edges as document 01 wants them. Every legal tree has it.
-- Assumes nothing.
use Prim.Native.Nat.{ℕ, ◌<◌, ◌*◌}
use native.Mathlib.Omega.{arith}
use native.Mathlib.Decide.{ℕ_discrete}
use mathlib.Core.Path.{◌≡◌, refl, sym, ◌∙◌, ap, subst}
use mathlib.Core.Logic.{inl, inr}
use mathlib.Core.Bool.{true, false, false≢true}
use Rattle.std.specs.Prelude.{Some}
use Rattle.std.proofs.lemmas.Option.{none-some, same_Some}
use Rattle.tree.specs.Search.{found}
use Rattle.tree.specs.Tree.{Tree, nothing, line, node, present, path, is_open, weight_of}
use Rattle.tree.specs.Opening.{put, one_edge}
use Rattle.tree.specs.Shape.{Edges, LegalUnder, Legal}
use Rattle.tree.proofs.Put.{put_same, put_other, put_each}
use Rattle.tree.proofs.Searching.{some_below_at}

unfoldable pub Proper : Tree → Type 0
Proper nothing = Unit {0}
Proper (line n) = Unit {0}
Proper (node w f) = (0 < w) × Edges w f × ((e : ℕ) → Proper (f e))

-- A node with one edge

pub nothing_open : (L : ℕ) (t : Tree) → t ≡ nothing → is_open L t ≡ true → ⊥
unfolding is_open path found
nothing_open L t e h =
    let none_found : false ≡ true = rw e at h in
    false≢true none_found

only_edge : (L i e : ℕ) (t : Tree) → is_open L (put i t (λ k. nothing) e) ≡ true → e ≡ i
only_edge L i e t h =
    elim (ℕ_discrete e i) [ yes z ↦ z | no z ↦ absurd (nothing_open L _ (put_other i e t (λ k. nothing) z) h) ]

pub only_edge_edges : (w i : ℕ) (t : Tree) → i < w → present t ≡ true → Edges w (put i t (λ e. nothing))
only_edge_edges w i t below here =
    record {
      below_weight = λ e h. put_other i e t (λ k. nothing) (λ z. omega arith);
      not_empty = some_below_at w _ i below (ap present (put_same i i t (λ k. nothing) refl) ∙ here);
      line_once = λ L e k a b. only_edge L i e t a ∙ sym (only_edge L i k t b);
    }

pub one_edge_edges : (w : ℕ) (t : Tree) → 0 < w → present t ≡ true → Edges w (put 0 t (λ e. nothing))
one_edge_edges w t positive here = only_edge_edges w 0 t positive here

pub one_edge_proper : (w : ℕ) (t : Tree) → 0 < w → present t ≡ true → Proper t → Proper (one_edge w t)
unfolding one_edge Proper
one_edge_proper w t positive here proper =
    (positive, one_edge_edges w t positive here, put_each Proper 0 t (λ k. nothing) proper (λ e other. tt))

-- Legal trees are proper

pub legal_under_proper : (m : ℕ) (t : Tree) → LegalUnder m t → Proper t
unfolding LegalUnder Proper
legal_under_proper m nothing h = tt
legal_under_proper m (line n) h = tt
legal_under_proper m (node w f) h =
    let two = h.0 in
    (omega arith, h.1, λ e. legal_under_proper (m * w) (f e) (h.2 e))

pub legal_proper : (t : Tree) → Legal t → Proper t
unfolding Legal Proper present
legal_proper nothing h = tt
legal_proper (line n) h = absurd h
legal_proper (node w f) (inl h) = legal_under_proper 1 (node w f) h
legal_proper (node w f) (inr h) =
    subst Proper (sym h.tree) (one_edge_proper 1 (line h.number) (omega arith) refl tt)

-- a node has a weight above 0
pub node_of_weight : (v : ℕ) (t : Tree) → Proper t → weight_of t ≡ Some v → (0 < v) × (present t ≡ true)
unfolding Proper weight_of present
node_of_weight v nothing proper h = absurd (none-some v h)
node_of_weight v (line n) proper h = absurd (none-some v h)
node_of_weight v (node w f) proper h = (subst (λ (n : ℕ). 0 < n) (same_Some w v h) proper.0, refl)
