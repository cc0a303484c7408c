-- Putting one more line into a tree (`stand` of crate tree, specs/Record.antt): it has the path given, and every other line its path as before.
-- Assumes nothing.
use Prim.Native.Nat.{ℕ, ◌*◌, ◌<◌, ◌≤◌}
use native.Mathlib.Omega.{arith}
use native.Mathlib.Nat.{mul-one, mul_assoc}
use mathlib.Core.Path.{◌≡◌, refl, sym, ◌∙◌, ap}
use mathlib.Core.Logic.{◌⊎◌, inl, inr}
use mathlib.Core.Bool.{true, not-eq-not}
use mathlib.Core.List.{List, [], ◌∷◌}
use Rattle.std.specs.Prelude.{None, Some}
use Rattle.tree.specs.declared.Row.{Row}
use Rattle.tree.specs.Tree.{Tree, nothing, line, node, present, row, product, path, is_open}
use Rattle.tree.specs.Standing.{Stands}
use Rattle.tree.specs.Opening.{put}
use Rattle.tree.specs.Shape.{Edges, LegalUnder}
use Rattle.tree.specs.Record.{rows_in_range, stand}
use Rattle.tree.proofs.Searching.{found_none}
use Rattle.tree.proofs.Put.{put_stands, put_same, put_each, under_put_edge}
use Rattle.tree.proofs.Proper.{Proper, nothing_open, only_edge_edges}
use Rattle.tree.proofs.Standing.{open_stands, stands_open, not_open_below}
use Rattle.tree.proofs.BookingAt.{put_edges}
use Rattle.paths.proofs.RangeLaws.{EdgesBelow, row_in_range}
use Rattle.bridge.proofs.NodePath.{path_under, path_put}
use Rattle.bridge.proofs.SameTree.{path_here}
use Rattle.bridge.proofs.Parting.{Parted, not_parted_from_line, no_rows_empty_tree, parted_from_nothing, parted_weight, parted_edge, parted_below}

-- What stands in the tree afterwards

module _ (L : ℕ) where
  stand_present : (rs : List Row) (t : Tree) → present (stand L rs t) ≡ true
  unfolding stand present
  stand_present [] t = refl
  stand_present (r ∷ rs) nothing = refl
  stand_present (r ∷ rs) (line n) = refl
  stand_present (r ∷ rs) (node w f) = refl

  -- a line that stands afterwards stood before, or is the new one
  stood_or_new : (M : ℕ) (rs : List Row) (t : Tree) (q u : ℕ) → Stands M (stand L rs t) q u → Stands M t q u ⊎ (M ≡ L)
  unfolding stand Stands
  stood_or_new M [] t q u h = inr (sym h.0)
  stood_or_new M (r ∷ rs) nothing q u h =
      elim (put_stands M r.weight r.edge (stand L rs nothing) (λ e. nothing) q u h) [
        | inl x ↦ elim (stood_or_new M rs nothing x.period x.start x.stands) [ inl none_there ↦ absurd none_there | inr new ↦ inr new ]
        | inr x ↦ absurd x.in_node.stands
      ]
  stood_or_new M (r ∷ rs) (line n) q u h = inl h
  stood_or_new M (r ∷ rs) (node w f) q u h =
      elim (put_stands M w r.edge (stand L rs (f r.edge)) f q u h) [
        | inl x ↦ elim (stood_or_new M rs (f r.edge) x.period x.start x.stands) [ inl old ↦ inl (under_put_edge x old) | inr new ↦ inr new ]
        | inr x ↦ inl x.in_node
      ]

  open_or_new : (M : ℕ) (rs : List Row) (t : Tree) → is_open M (stand L rs t) ≡ true → (is_open M t ≡ true) ⊎ (M ≡ L)
  open_or_new M rs t h =
      elim (stood_or_new M rs t _ _ (open_stands M (stand L rs t) h)) [
        | inl old ↦ inl (stands_open M t _ _ old)
        | inr new ↦ inr new
      ]

  -- the edges of a node that the new line goes through
  stand_in_nothing : (r : Row) (rs : List Row) → r.edge < r.weight → Edges r.weight (put r.edge (stand L rs nothing) (λ e. nothing))
  stand_in_nothing r rs below = only_edge_edges r.weight r.edge (stand L rs nothing) below (stand_present rs nothing)

  stand_in_node : (r : Row) (rs : List Row) (w : ℕ) (f : ℕ → Tree) → Parted L (r ∷ rs) (node w f) → Edges w (put r.edge (stand L rs (f r.edge)) f)
  unfolding Proper
  stand_in_node r rs w f p =
      let edges = p.proper.1 in
      put_edges L w f r.edge (stand L rs (f r.edge)) (λ M. open_or_new M rs (f r.edge))
      (parted_edge L r rs w f p) (stand_present rs (f r.edge)) (not_open_below L w f edges p.not_open) edges

  -- The tree stays proper, and legal where the path is

  pub stand_proper : (rs : List Row) (t : Tree) → Parted L rs t → Proper (stand L rs t)
  unfolding stand Proper EdgesBelow
  stand_proper [] t p = tt
  stand_proper (r ∷ rs) nothing p =
      let below = p.edges_below.0 in (
        omega arith,
        stand_in_nothing r rs below,
        put_each Proper r.edge (stand L rs nothing) (λ e. nothing) (stand_proper rs nothing (parted_from_nothing L rs p.edges_below.1)) (λ e other. tt),
      )
  stand_proper (r ∷ rs) (line n) p = tt
  stand_proper (r ∷ rs) (node w f) p = (
    p.proper.0,
    stand_in_node r rs w f p,
    put_each Proper r.edge (stand L rs (f r.edge)) f (stand_proper rs (f r.edge) (parted_below L r rs w f p)) (λ e other. p.proper.2 e),
  )

  pub stand_legal : (m : ℕ) (rs : List Row) (t : Tree) → L ≤ 63 → rows_in_range rs ≡ true → m * product rs ≤ 4095 → Parted L rs t → LegalUnder m t → LegalUnder m (stand L rs t)
  unfolding stand LegalUnder product
  stand_legal m [] t number range period p legal = (number, rw mul-one at period)
  stand_legal m (r ∷ rs) nothing number range period p legal =
      let here = row_in_range r rs range in (
        here.0,
        stand_in_nothing r rs here.1,
        put_each (LegalUnder (m * r.weight)) r.edge (stand L rs nothing) (λ e. nothing)
            (stand_legal (m * r.weight) rs nothing number here.2 (rw mul_assoc period) (parted_from_nothing L rs (unfold EdgesBelow in p.edges_below.1)) tt)
            (λ e other. tt),
      )
  stand_legal m (r ∷ rs) (line n) number range period p legal = legal
  stand_legal m (r ∷ rs) (node w f) number range period p legal =
      let below = (row_in_range r rs range).2 in (
        legal.0,
        stand_in_node r rs w f p,
        put_each (LegalUnder (m * w)) r.edge (stand L rs (f r.edge)) f
            (stand_legal (m * w) rs (f r.edge) number below (rw (parted_weight L r rs w f p, mul_assoc) period) (parted_below L r rs w f p) (legal.2 r.edge))
            (λ e other. legal.2 e),
      )

  -- The paths in it

  pub stand_path_new : (rs : List Row) (t : Tree) → Parted L rs t → path L (stand L rs t) ≡ Some rs
  unfolding stand EdgesBelow
  stand_path_new [] t p = path_here L
  stand_path_new (r ∷ rs) nothing p =
      let below = p.edges_below.0 in
      path_under L r.weight _ r.edge rs (stand_in_nothing r rs below) below
      (ap (path L) (put_same r.edge r.edge (stand L rs nothing) (λ e. nothing) refl) ∙ stand_path_new rs nothing (parted_from_nothing L rs p.edges_below.1))
  stand_path_new (r ∷ rs) (line n) p = absurd (not_parted_from_line L n (r ∷ rs) p)
  stand_path_new (r ∷ rs) (node w f) p =
      path_under L w _ r.edge rs (stand_in_node r rs w f p) (parted_edge L r rs w f p)
      (ap (path L) (put_same r.edge r.edge (stand L rs (f r.edge)) f refl) ∙ stand_path_new rs (f r.edge) (parted_below L r rs w f p))
      ∙ ap (λ (v : ℕ). Some (row v r.edge ∷ rs)) (parted_weight L r rs w f p)

  other_path_in_nothing : (M : ℕ) (rs : List Row) → (M ≡ L → ⊥) → path M (stand L rs nothing) ≡ None
  unfolding is_open
  other_path_in_nothing M rs other = found_none _ (not-eq-not.0 λ h.
      elim (open_or_new M rs nothing h) [ inl x ↦ nothing_open M nothing refl x | inr new ↦ other new ])

  pub stand_path_other : (M : ℕ) (rs : List Row) (t : Tree) → Parted L rs t → (M ≡ L → ⊥) → path M (stand L rs t) ≡ path M t
  unfolding stand path
  stand_path_other M [] t p other = other_path_in_nothing M [] other ∙ ap (path M) (sym (no_rows_empty_tree L t p))
  stand_path_other M (r ∷ rs) nothing p other = other_path_in_nothing M (r ∷ rs) other
  stand_path_other M (r ∷ rs) (line n) p other = refl
  stand_path_other M (r ∷ rs) (node w f) p other =
      path_put M w r.edge (stand L rs (f r.edge)) f (stand_path_other M rs (f r.edge) (parted_below L r rs w f p) other)
