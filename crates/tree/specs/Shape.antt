-- Which trees there are (document 01, The tree): what a record must have to be taken for a tree, and what opening and closing keep.
-- Assumes nothing.
use Rattle.std.specs.Prelude.{ℕ, ◌*◌, ◌≤◌, ◌≡◌, ◌⊎◌, true}
use Rattle.tree.specs.Search.{some_below}
use Rattle.tree.specs.Tree.{Tree, nothing, line, node, present, is_open}
use Rattle.tree.specs.Opening.{one_edge}

-- (The tree, 4, 16) The edges of a node of weight w: below w, at least one, and no line under two of them.
pub record Edges (w : ℕ) (f : ℕ → Tree) : Type 0 where
  pub below_weight : (e : ℕ) → w ≤ e → f e ≡ nothing
  pub not_empty : some_below w (λ e. present (f e)) ≡ true
  pub line_once : (L e k : ℕ) → is_open L (f e) ≡ true → is_open L (f k) ≡ true → e ≡ k

-- (The tree, 2, 4, 15) What may stand where the weights above have the product m, which is the period of a line there.
unfoldable pub LegalUnder : ℕ → Tree → Type 0
LegalUnder m nothing = Unit {0}
LegalUnder m (line n) = (n ≤ 63) × (m ≤ 4095)
LegalUnder m (node w f) = (2 ≤ w) × Edges w f × ((e : ℕ) → LegalUnder (m * w) (f e))

-- (The tree, 15) A root of weight 1 has one line and nothing else.
pub record Alone (t : Tree) : Type 0 where
  pub number : ℕ
  pub number_in_range : number ≤ 63
  pub tree : t ≡ one_edge 1 (line number)

-- (The tree, 2, 4, 15, 16) A tree of document 01, the empty plan included.
unfoldable pub Legal : Tree → Type 0
Legal nothing = Unit {0}
Legal (line n) = ⊥
Legal (node w f) = LegalUnder 1 (node w f) ⊎ Alone (node w f)
