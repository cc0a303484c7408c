-- What is answered of a class of a node over the paths (`reason_on_paths` of crate paths, specs/Rules.antt) is what the rules answer on the tree.
-- Assumes nothing.
use Rattle.std.specs.Prelude.{if◌then◌else◌, Option, None, Some, unwrap_or}
use Prim.Native.Nat.{ℕ, ◌<◌}
use mathlib.Core.Path.{◌≡◌, refl, sym, ◌∙◌, ap}
use mathlib.Core.Bool.{Bool, true, false, not, ◌&&◌, true≢false, not-eq-not, and-eq-true_iff}
use mathlib.Core.List.{List, [], ◌∷◌}
use lib.Dec.{eqb, ltb}
use lib.ListN.{length, take}
use borrow.Author.Tests.{ltb-true, lt-ltb, eqb-true, eq-eqb}
use Rattle.tree.specs.Search.{found, smallest}
use Rattle.tree.specs.Tree.{Tree, sum, Place, at, step}
use Rattle.tree.specs.Shape.{Legal}
use Rattle.tree.specs.Reason.{step_does_not_divide, line_stands, is_node, has_class, stands_in_class, line_in_class, reason}
use Rattle.tree.specs.Refusals.{refuse, first_refusal, period_out_of_range, reason_refusal}
use Rattle.tree.specs.Calls.{gives, refuses, gives_unless, reason_outcome}
use Rattle.tree.specs.Record.{path_at, legal}
use Rattle.paths.specs.Rules.{Family, row_of, through_node, line_through, line_of_class, line_or_12, reason_with, reason_on_path, reason_on_paths}
use Rattle.tree.proofs.Searching.{smallest_same, smallest_some, smallest_none}
use Rattle.tree.proofs.Checks.{reason_refused_2}
use Rattle.tree.proofs.Reasons.{node_there}
use Rattle.bridge.specs.Rows.{tree_of_rows}
use Rattle.bridge.proofs.NodesOnPaths.{place_on, NodeOnPath, node_path}
use Rattle.bridge.proofs.ClassOnPaths.{PathsOf, path_family, node_on_path, takes_class_is}
use Rattle.bridge.proofs.TreeOfRecord.{legal_on_record, paths_on_record}

-- what is answered where a node is, by whether its step divides the period, whether the class is below d, and which line was found in the class
answer_of_class : (divided below : Bool) (o : Option ℕ) →
    (if divided then (if below then line_or_12 o else refuses 11) else gives step_does_not_divide)
    ≡ gives_unless
    (first_refusal (refuse 11 (divided && not below) ∷ refuse 12 (divided && not (found o)) ∷ []))
    (if divided then line_stands (unwrap_or o 0) else step_does_not_divide)
unfolding line_or_12 gives_unless first_refusal found
answer_of_class false below o = refl
answer_of_class true false o = refl
answer_of_class true true None = refl
answer_of_class true true (Some N) = refl

module _ (p i : ℕ) (a : Place) (t : Tree) where
  refused_2 : period_out_of_range p ≡ true → reason_outcome p a i t ≡ refuses 2
  unfolding reason_outcome gives_unless
  refused_2 beyond = rw (reason_refused_2 p a i t beyond)

  refused_10 : period_out_of_range p ≡ false → is_node (at a t) ≡ false → reason_outcome p a i t ≡ refuses 10
  unfolding reason_outcome reason_refusal first_refusal gives_unless
  refused_10 in_range none_there = rw (in_range, none_there)

module _ (t : Tree) (legal : Legal t) (family : Family) (paths : PathsOf t family) where
  -- At the node at level l of line M's path

  module _ (M l : ℕ) (below : M < 64) (long : l < length (family M)) where
    abbrev here : NodeOnPath M t l (family M)
    here = node_on_path t family paths M l below long

    line_of_class_is : (d i : ℕ) → line_of_class family (family M) l d i ≡ smallest 64 (stands_in_class d (row_of l (family M)).weight here.edges i)
    unfolding line_of_class
    line_of_class_is d i = smallest_same 64 _ _ (takes_class_is t legal family paths M l below long d i)

    reason_on_path_is : (p i : ℕ) → period_out_of_range p ≡ false → reason_on_path family p M l i ≡ reason_outcome p (place_on l (family M)) i t
    unfolding reason_on_path reason_with reason_outcome reason_refusal reason is_node has_class line_in_class step first_refusal gives_unless
    reason_on_path_is p i in_range = rw (in_range, here.node_is, here.way_is, line_of_class_is _ i) (answer_of_class _ _ _)

  -- At a level and an offset

  module _ (l r : ℕ) where
    abbrev place : Place
    place = record { level = l; offset = r }

    no_node_there : line_through family l r ≡ None → is_node (at place t) ≡ false
    unfolding line_through through_node
    no_node_there none = not-eq-not.0 λ h.
        let x = node_there (at place t) h in
        let y = (node_path t legal place x.0 x.1 x.2).1 in
        let rows = path_family t family paths y.line y.rows y.line_below y.path_is in
        let passes : through_node family l r y.line ≡ true = rw (rows, lt-ltb l (length y.rows) y.level_below) (eq-eqb (sum (take l y.rows)) r y.offset_is) in
        true≢false (sym passes ∙ smallest_none 64 _ none y.line y.line_below)

    reason_of_line_through : (p i M : ℕ) → period_out_of_range p ≡ false → line_through family l r ≡ Some M → reason_on_path family p M l i ≡ reason_outcome p place i t
    unfolding line_through through_node
    reason_of_line_through p i M in_range h =
        let x = smallest_some 64 _ M h in
        let both = (and-eq-true_iff (ltb l (length (family M))) (eqb (sum (take l (family M))) r)).0 x.passes in
        let offset = eqb-true (sum (take l (family M))) r both.1 in
        reason_on_path_is M l x.in_range (ltb-true l (length (family M)) both.0) p i in_range
        ∙ ap (λ (n : ℕ). reason_outcome p (record { level = l; offset = n }) i t) offset

  pub reason_on_paths_is : (p l r i : ℕ) → reason_on_paths family p l r i ≡ reason_outcome p (record { level = l; offset = r }) i t
  unfolding reason_on_paths
  reason_on_paths_is p l r i = by_checks (period_out_of_range p) refl (line_through family l r) refl
    where
      by_checks : (b : Bool) → period_out_of_range p ≡ b → (o : Option ℕ) → line_through family l r ≡ o →
          reason_on_paths family p l r i ≡ reason_outcome p (place l r) i t
      by_checks true beyond o h = rw beyond (sym (refused_2 p i (place l r) t beyond))
      by_checks false in_range None h = rw (in_range, h) (sym (refused_10 p i (place l r) t in_range (no_node_there l r h)))
      by_checks false in_range (Some M) h = rw (in_range, h) (reason_of_line_through l r p i M in_range h)

pub reason_on_record : (rows : List ℕ) → legal rows ≡ true → (p l r i : ℕ) →
    reason_on_paths (path_at rows) p l r i ≡ reason_outcome p (record { level = l; offset = r }) i (tree_of_rows rows)
reason_on_record rows is_legal = reason_on_paths_is (tree_of_rows rows) (legal_on_record rows) (path_at rows) (paths_on_record rows is_legal)
