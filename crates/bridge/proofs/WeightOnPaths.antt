-- The weight with which a node on a path is joined is the one that the lines through it have at the level below.
-- Assumes nothing.
use Rattle.std.specs.Prelude.{Option, None, Some}
use Prim.Native.Nat.{ℕ, suc, ◌<◌}
use native.Mathlib.Omega.{arith}
use native.Mathlib.Decide.{dec_lt}
use native.Mathlib.Numerals.{add-one}
use mathlib.Core.Path.{◌≡◌, refl, sym, ◌∙◌, ap, subst}
use mathlib.Core.Bool.{Bool, true, false, false≢true}
use mathlib.Core.List.{List, ◌∷◌}
use Rattle.std.proofs.lemmas.Option.{none-some}
use lib.Dec.{eqb}
use lib.ListN.{length, drop, length-drop}
use lib.Seq.{get_or-drop}
use borrow.Author.Tests.{eqb-true, eq-eqb, ne_eqb}
use Rattle.tree.specs.declared.Row.{Row}
use Rattle.tree.specs.Tree.{Tree, nothing, line, node, present, row, weight_of}
use Rattle.tree.specs.Closing.{of_weight}
use Rattle.tree.specs.Record.{path_at, legal}
use Rattle.tree.proofs.Proper.{Proper, legal_proper, node_of_weight}
use Rattle.tree.proofs.Numbering.{stands_number}
use Rattle.tree.proofs.UnderEdge.{stands_present}
use Rattle.tree.proofs.Joining.{OneWeight, weight_below_some, one_weight_below}
use Rattle.paths.specs.Rules.{row_of, same_node, weight_below_on_paths}
use Rattle.paths.proofs.SameNode.{same_node_goes_on}
use Rattle.paths.proofs.RowLaws.{row_beyond}
use Rattle.paths.proofs.JoiningPaths.{OneWeightOnPaths, weight_on_paths_some, one_weight_on_paths}
use Rattle.bridge.specs.Rows.{tree_of_rows}
use Rattle.bridge.specs.Joining.{along, weight_to_join, TakesThrough}
use Rattle.bridge.proofs.SameTree.{present_path}
use Rattle.bridge.proofs.Route.{Route, ThroughEdge, route_under, route_stands, path_route, route_path}
use Rattle.bridge.proofs.RouteAlong.{along_proper, route_along, along_route}
use Rattle.bridge.proofs.ClassOnPaths.{path_family, family_path}
use Rattle.bridge.proofs.TreeOfRecord.{legal_on_record, paths_on_record}

-- Weights

-- what a line stands below has the weight of the first row on its way there
route_weight : (M v : ℕ) (t : Tree) (rs : List Row) → 0 < v → Route M t rs → of_weight v t ≡ eqb (row_of 0 rs).weight v
unfolding Route of_weight row_of
route_weight M v nothing rs positive h = absurd h
route_weight M v (line n) rs positive h = rw h.1 (sym (ne_eqb 0 v (λ none. omega arith)))
route_weight M v (node w f) rs positive h = rw h.rows_are

present_of_weight : (v : ℕ) (t : Tree) → present t ≡ true → of_weight v t ≡ true → weight_of t ≡ Some v
unfolding present of_weight weight_of
present_of_weight v nothing here h = absurd (false≢true here)
present_of_weight v (line n) here h = absurd (false≢true h)
present_of_weight v (node w f) here h = ap Some (eqb-true w v h)

absent_of_weight : (v : ℕ) (t : Tree) → present t ≡ false → of_weight v t ≡ true
unfolding present of_weight
absent_of_weight v nothing absent = refl
absent_of_weight v (line n) absent = absurd (false≢true (sym absent))
absent_of_weight v (node w f) absent = absurd (false≢true (sym absent))

-- the second row from level l on
row_below : (l : ℕ) (rs : List Row) (r : Row) (qs : List Row) → drop l rs ≡ r ∷ qs → row_of (suc l) rs ≡ row_of 0 qs
unfolding row_of
row_below l rs r qs h =
    ap (λ (k : ℕ). row_of k rs) (sym (add-one l)) ∙ sym (get_or-drop l rs 1 (row 0 0)) ∙ ap (row_of 1) h

-- The lines that are taken

module _ (rows : List ℕ) (is_legal : legal rows ≡ true) (ps : List Row) (l : ℕ) (taken : ℕ → Bool) (takes : TakesThrough rows ps l taken) where
  abbrev t : Tree
  t = tree_of_rows rows

  abbrev family : ℕ → List Row
  family = path_at rows

  proper : Proper t
  proper = legal_proper t (legal_on_record rows)

  -- their paths have rows from the level on, which lead to them from what stands there
  taken_rows : (M : ℕ) → M < 64 → taken M ≡ true → l < length (family M)
  taken_rows M below on = (same_node_goes_on l ps (family M) (sym (takes M below) ∙ on)).1

  taken_route : (M : ℕ) → M < 64 → taken M ≡ true → Route M (along l ps t) (drop l (family M))
  taken_route M below on =
      route_along M l ps t (family M) (sym (takes M below) ∙ on)
      (path_route M t (family M) (family_path t family (paths_on_record rows is_legal) M l below (taken_rows M below on)))

  -- each line that rows lead to from there is taken
  route_taken : (M : ℕ) (q : Row) (qs : List Row) → Route M (along l ps t) (q ∷ qs) → (M < 64) × (taken M ≡ true) × (drop l (family M) ≡ q ∷ qs)
  route_taken M q qs h =
      let x = along_route M l ps t q qs proper h in
      let number = stands_number M t _ _ (legal_on_record rows) (route_stands M t x.rows x.route) in
      let below : M < 64 = omega arith in
      let rows_are = path_family t family (paths_on_record rows is_legal) M x.rows below (route_path M t x.rows proper x.route) in
      (below, takes M below ∙ ap (same_node l ps) rows_are ∙ x.same, ap (drop l) rows_are ∙ x.rest_is)

  -- A node stands there

  module _ (w : ℕ) (f : ℕ → Tree) (here : along l ps t ≡ node w f) where
    node_proper : Proper (node w f)
    node_proper = subst Proper here (along_proper l ps t proper)

    -- line M is taken, and goes on by the rest of its path under edge e of the node
    record TakenUnder (M e : ℕ) : Type 0 where
      line_below : M < 64
      line_taken : taken M ≡ true
      edge_below : e < w
      rest : List Row
      route : Route M (f e) rest
      rows_are : drop l (family M) ≡ row w e ∷ rest

    taken_edge : (M : ℕ) → M < 64 → taken M ≡ true → (e : ℕ) × TakenUnder M e
    unfolding Route
    taken_edge M below on =
        let x : ThroughEdge w (drop l (family M)) (λ e qs. Route M (f e) qs) = rw here at (taken_route M below on) in
        (x.edge, record { line_below = below; line_taken = on; edge_below = x.edge_below; rest = x.rest; route = x.route; rows_are = x.rows_are })

    -- under each present edge some line goes on
    present_taken : (e : ℕ) → e < w → present (f e) ≡ true → (M : ℕ) × TakenUnder M e
    unfolding Proper
    present_taken e below there =
        let x = present_path (f e) (node_proper.2 e) there in
        let h = path_route x.0 (f e) x.1 x.2 in
        let on = route_taken x.0 (row w e) x.1 (rw here (route_under x.0 w f e x.1 below h)) in
        (x.0, record { line_below = on.0; line_taken = on.1; edge_below = below; rest = x.1; route = h; rows_are = on.2 })

    -- what it leads to has the weight of the line's row there
    weight_read : (M e v : ℕ) → 0 < v → TakenUnder M e → of_weight v (f e) ≡ eqb (row_of (suc l) (family M)).weight v
    weight_read M e v positive x =
        route_weight M v (f e) x.rest positive x.route ∙ ap (λ (r : Row). eqb r.weight v) (sym (row_below l (family M) _ x.rest x.rows_are))

    weight_of_node : (v : ℕ) → OneWeight w v f → OneWeightOnPaths family taken l v
    unfolding Proper
    weight_of_node v one =
        let there = node_of_weight v (f one.edge) (node_proper.2 one.edge) one.leads_to in
        let x = present_taken one.edge one.edge_below there.1 in
        record {
          line = x.0;
          line_below = x.1.line_below;
          line_taken = x.1.line_taken;
          positive = there.0;
          all = λ M below on.
              let y = taken_edge M below on in
              eqb-true _ v (sym (weight_read M y.0 v there.0 y.1) ∙ one.all y.0 y.1.edge_below);
        }

    weight_of_paths : (v : ℕ) → OneWeightOnPaths family taken l v → OneWeight w v f
    weight_of_paths v one =
        let x = taken_edge one.line one.line_below one.line_taken in
        record {
          edge = x.0;
          edge_below = x.1.edge_below;
          leads_to = present_of_weight v (f x.0) (stands_present one.line (f x.0) _ _ (route_stands one.line (f x.0) x.1.rest x.1.route)) (has_weight one.line x.0 x.1);
          all = λ e below. by_edge e below (present (f e)) refl;
        }
      where
        has_weight : (M e : ℕ) → TakenUnder M e → of_weight v (f e) ≡ true
        has_weight M e x = weight_read M e v one.positive x ∙ eq-eqb _ v (one.all M x.line_below x.line_taken)

        by_edge : (e : ℕ) → e < w → (b : Bool) → present (f e) ≡ b → of_weight v (f e) ≡ true
        by_edge e below false absent = absent_of_weight v (f e) absent
        by_edge e below true there = let x = present_taken e below there in has_weight x.0 e x.1

  -- The two weights

  node_weight_on_paths : (v : ℕ) → weight_to_join (along l ps t) ≡ Some v → weight_below_on_paths family taken l ≡ Some v
  unfolding weight_to_join
  node_weight_on_paths v h = by_tree (along l ps t) refl h
    where
      by_tree : (s : Tree) → along l ps t ≡ s → weight_to_join s ≡ Some v → weight_below_on_paths family taken l ≡ Some v
      by_tree nothing here k = absurd (none-some v k)
      by_tree (line n) here k = absurd (none-some v k)
      by_tree (node w f) here k = one_weight_on_paths family taken l v (weight_of_node w f here v (weight_below_some w v f k))

  paths_weight_of_node : (v : ℕ) → weight_below_on_paths family taken l ≡ Some v → weight_to_join (along l ps t) ≡ Some v
  unfolding weight_to_join Route
  paths_weight_of_node v h = by_tree (along l ps t) refl (taken_route one.line one.line_below one.line_taken)
    where
      one : OneWeightOnPaths family taken l v
      one = weight_on_paths_some family taken l v h

      by_tree : (s : Tree) → along l ps t ≡ s → Route one.line s (drop l (family one.line)) → weight_to_join (along l ps t) ≡ Some v
      by_tree nothing here k = absurd k
      by_tree (line n) here k =
          let goes_on = taken_rows one.line one.line_below one.line_taken in
          let none_left = ap length k.1 in
          absurd (omega (arith, length-drop l (family one.line)))
      by_tree (node w f) here k = rw here (one_weight_below w v f (weight_of_paths w f here v one))

  pub weight_on_paths_is : weight_below_on_paths (path_at rows) taken l ≡ weight_to_join (along l ps (tree_of_rows rows))
  weight_on_paths_is = by_weights (weight_below_on_paths family taken l) refl (weight_to_join (along l ps t)) refl
    where
      by_weights : (o : Option ℕ) → weight_below_on_paths family taken l ≡ o → (p : Option ℕ) → weight_to_join (along l ps t) ≡ p → o ≡ p
      by_weights None e None k = refl
      by_weights None e (Some v) k = sym e ∙ node_weight_on_paths v k
      by_weights (Some v) e p k = sym (paths_weight_of_node v e) ∙ k

  -- a line that is taken has a row below the level
  pub taken_path_long : (v : ℕ) → weight_below_on_paths (path_at rows) taken l ≡ Some v → (M : ℕ) → M < 64 → taken M ≡ true →
      (suc l < length (path_at rows M)) × ((row_of (suc l) (path_at rows M)).weight ≡ v)
  taken_path_long v h M below on = (long (dec_lt (suc l) (length (family M))), weight)
    where
      one : OneWeightOnPaths family taken l v
      one = weight_on_paths_some family taken l v h

      weight : (row_of (suc l) (family M)).weight ≡ v
      weight = one.all M below on

      long : Dec (suc l < length (family M)) → suc l < length (family M)
      long (yes goes_on) = goes_on
      long (no ends) = let positive = one.positive in absurd (omega (arith, weight, ap (λ (r : Row). r.weight) (row_beyond (family M) (suc l) (omega arith))))
