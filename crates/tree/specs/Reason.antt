-- What stands in the way of a period at a class of a node (document 02, Ask 7).
-- Assumes nothing.
use Rattle.std.specs.Prelude.{ℕ, ◌%◌, Bool, true, false, ◌&&◌, eqb, ltb, if◌then◌else◌, Option, None, unwrap_or}
use Rattle.tree.specs.Numbers.{divides}
use Rattle.tree.specs.Search.{smallest, some_below}
use Rattle.tree.specs.Tree.{Tree, nothing, line, node, is_open, Place, at, step}
use Rattle.tree.specs.Opening.{divisor}

-- (Ask 7, 2) What the call says: the node's step does not divide the period, or this line stands under an edge of the class.
pub data Reason : Type 0 where
  step_does_not_divide : Reason
  line_stands : ℕ → Reason

-- (The tree, 4) A node stands here: no line, and not nothing.
unfoldable pub is_node : Tree → Bool
is_node nothing = false
is_node (line n) = false
is_node (node w f) = true

-- (Opening a line, 2) i is a class of this node of step m: it is below d.
unfoldable pub has_class : ℕ → ℕ → Tree → ℕ → Bool
has_class p m nothing i = false
has_class p m (line n) i = false
has_class p m (node w f) i = ltb i (divisor p m w)

-- (Ask 7, 2) Line L stands, at whatever depth, under an edge of class i modulo d.
unfoldable pub stands_in_class : ℕ → ℕ → (ℕ → Tree) → ℕ → ℕ → Bool
stands_in_class d w f i L = some_below w (λ e. eqb (e % d) i && is_open L (f e))

-- (Ask 7, 2) The line of lowest number that stands under an edge of class i of this node of step m.
unfoldable pub line_in_class : ℕ → ℕ → Tree → ℕ → Option ℕ
line_in_class p m nothing i = None
line_in_class p m (line n) i = None
line_in_class p m (node w f) i = smallest 64 (stands_in_class (divisor p m w) w f i)

-- (Ask 7, 2) What the call says of a node and a class. Where no line stands in the class it is refused with 12, and the 0 is answered to nobody.
unfoldable pub reason : ℕ → Place → ℕ → Tree → Reason
reason p a i t =
    if divides (step a t) p then line_stands (unwrap_or (line_in_class p (step a t) (at a t) i) 0) else step_does_not_divide
