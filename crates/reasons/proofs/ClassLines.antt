-- Whether a line takes an edge of a class at a node, from the number read in the record (`takes_class` of crate paths).
-- Assumes nothing.
use Prim.Native.Nat.{ℕ, ◌%◌}
use mathlib.Core.Path.{◌≡◌, ◌∙◌}
use mathlib.Core.Bool.{true, false, and-false}
use mathlib.Core.List.{List}
use lib.Dec.{eqb}
use borrow.Author.Tests.{eq-eqb, ne_eqb}
use Rattle.tree.specs.declared.Row.{Row}
use Rattle.tree.specs.Record.{row_at, path_at}
use Rattle.paths.specs.Rules.{same_node, takes_class}
use Rattle.paths.proofs.SameNode.{edge_read}

module _ (rows : List ℕ) (ps : List Row) (l d i N : ℕ) where
  pub through_no_node : same_node l ps (path_at rows N) ≡ false → takes_class (path_at rows) ps l d i N ≡ false
  through_no_node apart = rw apart

  -- number e was read as the edge of line N at level l
  module _ {e : ℕ} (read : e ≡ (row_at rows N l).edge) where
    pub takes_this_class : same_node l ps (path_at rows N) ≡ true → e % d ≡ i → takes_class (path_at rows) ps l d i N ≡ true
    takes_this_class meets of_class = edge_read rows ps l N read (λ k. eqb (k % d) i) ∙ rw (meets, eq-eqb _ _ of_class)

    pub takes_other_class : (e % d ≡ i → ⊥) → takes_class (path_at rows) ps l d i N ≡ false
    takes_other_class other = edge_read rows ps l N read (λ k. eqb (k % d) i) ∙ rw (ne_eqb _ _ other, and-false)
