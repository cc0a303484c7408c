-- A 5 and its reasons (document 02, Ask 7): what is true of the tree where the call gives a reason, and when each class of each node has one.
-- Assumes nothing.
use Rattle.std.specs.Prelude.{ℕ, ◌%◌, ◌<◌, ◌≤◌, ◌≡◌, true, false}
use Rattle.tree.specs.Numbers.{divides}
use Rattle.tree.specs.Tree.{Tree, node, is_open, Place, at, step}
use Rattle.tree.specs.Opening.{divisor}
use Rattle.tree.specs.Reason.{Reason, step_does_not_divide, line_stands, is_node, has_class}
use Rattle.tree.specs.Calls.{Outcome, gives, refuses}

-- (Ask 7, 2, 3) A line said to stand in the way: what is true of it.
pub record StandsInTheWay (p : ℕ) (a : Place) (i L : ℕ) (t : Tree) : Type 0 where
  pub weight : ℕ
  pub edges : ℕ → Tree
  pub edge : ℕ
  -- a node stands at the place, its step divides the period, and the class is below its d
  pub node_is : at a t ≡ node weight edges
  pub divided : divides (step a t) p ≡ true
  pub class_below : i < divisor p (step a t) weight
  -- the line is open and stands under an edge of the class
  pub is_open_line : is_open L t ≡ true
  pub edge_below : edge < weight
  pub of_class : edge % divisor p (step a t) weight ≡ i
  pub under_edge : is_open L (edges edge) ≡ true
  -- none of a lower number does
  pub lowest : (M e : ℕ) → e < weight → e % divisor p (step a t) weight ≡ i → is_open M (edges e) ≡ true → L ≤ M

-- (Ask 7, 3) What the call says is true of the tree.
unfoldable pub TrueOf : ℕ → Place → ℕ → Tree → Reason → Type 0
TrueOf p a i t step_does_not_divide = (is_node (at a t) ≡ true) × (divides (step a t) p ≡ false)
TrueOf p a i t (line_stands L) = StandsInTheWay p a i L t

-- (Ask 7, 3) A node stands at the place, and i is a class of it: below d where its step divides the period; where it does not, any number.
pub record ClassOfNode (p : ℕ) (a : Place) (i : ℕ) (t : Tree) : Type 0 where
  pub node_there : is_node (at a t) ≡ true
  pub class_below : divides (step a t) p ≡ true → has_class p (step a t) (at a t) i ≡ true

-- (Ask 7, 3) Each class of each node has a reason for period p, where the call answers so.
unfoldable pub EachHasReason : ℕ → Tree → (Place → ℕ → Outcome Reason) → Type 0
EachHasReason p t told = (a : Place) (i : ℕ) → ClassOfNode p a i t → (r : Reason) × (told a i ≡ gives r)

-- (Ask 7, 3, 4) The same as the calls alone show it: asked of every level, offset and class, none is refused with 12.
unfoldable pub NoneRefusedWith12 : (Place → ℕ → Outcome Reason) → Type 0
NoneRefusedWith12 told = (a : Place) (i : ℕ) → told a i ≡ refuses 12 → ⊥
