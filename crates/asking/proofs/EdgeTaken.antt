-- Which edge a line takes at a node, from the number read in the record.
-- Assumes nothing.
use Prim.Native.Nat.{ℕ}
use mathlib.Core.Path.{◌≡◌, ◌∙◌}
use mathlib.Core.Bool.{false, and-false, and-true}
use mathlib.Core.List.{List}
use lib.Dec.{eqb}
use borrow.Author.Tests.{eq-eqb, ne_eqb}
use Rattle.tree.specs.declared.Row.{Row}
use Rattle.tree.specs.Record.{row_at, path_at}
use Rattle.paths.specs.Rules.{same_node}
use Rattle.paths.proofs.SameNode.{edge_read}
use Rattle.asking.specs.Answers.{takes_edge}

-- number d was read as the edge of line N at level l
module _ (rows : List ℕ) (ps : List Row) (l e N : ℕ) {d : ℕ} (read : d ≡ (row_at rows N l).edge) where
  pub takes_another : (d ≡ e → ⊥) → takes_edge (path_at rows) ps l e N ≡ false
  unfolding takes_edge
  takes_another differ = edge_read rows ps l N read (λ k. eqb k e) ∙ rw (ne_eqb _ _ differ, and-false)

  pub takes_this : d ≡ e → takes_edge (path_at rows) ps l e N ≡ same_node l ps (path_at rows N)
  unfolding takes_edge
  takes_this same = edge_read rows ps l N read (λ k. eqb k e) ∙ rw (eq-eqb _ _ same, and-true)
