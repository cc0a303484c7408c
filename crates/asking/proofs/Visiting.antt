-- Visiting a node (specs/Visits.antt): the root with step 1, and a child with its parent's step times its parent's weight.
-- Assumes nothing.
use Prim.Native.Nat.{ℕ, suc, ◌+◌, ◌*◌, ◌/◌, ◌%◌, ◌<◌}
use native.Mathlib.Omega.{arith}
use native.Mathlib.Nat.{mod-one, mod-lt}
use native.Mathlib.Decide.{dec_lt}
use mathlib.Core.Path.{◌≡◌, refl, sym, ◌∙◌, ap, subst}
use mathlib.Core.Bool.{true, false, not-eq-not}
use mathlib.Core.List.{List}
use Rattle.std.specs.Prelude.{None, Some}
use lib.Dec.{eqb}
use lib.ListN.{length, take}
use Rattle.tree.specs.declared.Row.{Row}
use Rattle.tree.specs.Tree.{Tree, present, product, sum, path, path_of, at, way, step}
use Rattle.tree.specs.Shape.{Legal}
use Rattle.tree.specs.Asking.{TakesEdge, LeadsTo}
use Rattle.tree.specs.Record.{row_at, path_at, legal}
use Rattle.bridge.specs.Rows.{plan_of, tree_of_rows}
use Rattle.paths.specs.Rules.{row_of, same_node, line_under}
use Rattle.tree.proofs.Proper.{Proper, legal_proper}
use Rattle.tree.proofs.LedRounds.{offset_below_step, leads_to_selected, led_to_edge}
use Rattle.tree.proofs.Depth.{step_at_most_2047}
use Rattle.paths.proofs.PathRows.{row_in_path, weight_read}
use Rattle.paths.proofs.PathNumbers.{Carried, carried_start, carried_row}
use Rattle.bridge.proofs.NodesOnPaths.{place_on, NodeOnPath, node_proper, way_sum, same_node_exactly, same_node_weight}
use Rattle.bridge.proofs.ClassOnPaths.{family_path, node_on_path}
use Rattle.bridge.proofs.TreeOfRecord.{tree_of_illegal, tree_of_path_beyond, legal_on_record, paths_on_record}
use Rattle.asking.specs.Visits.{visited, Visits}
use Rattle.asking.proofs.Walking.{line_under_takes, line_under_within, through_next}

-- In every legal tree the walk for the round passes the node visited, and takes the edge there that the round selects by the step

module _ (t : Tree) (is_legal : Legal t) {L l m n : ℕ} (here : Visits t L l m n) where
  pub step_positive : 0 < m
  unfolding at way step present
  step_positive = omega (arith, here.step_is, offset_below_step l (n % m) t (legal_proper t is_legal) (ap present here.node_is))

  weight_positive : 0 < here.weight
  unfolding Proper
  weight_positive = (node_proper t is_legal (visited l m n) here.weight here.edges here.node_is).0

  -- the rounds of that edge, of which n is one
  led_to : LeadsTo m here.weight (n % m) (n / m % here.weight) n
  led_to = (leads_to_selected m here.weight _ _ n (mod-lt n step_positive) (mod-lt (n / m) weight_positive)).1 (refl, refl)

  edge_taken : TakesEdge (visited l m n) here.weight (n / m % here.weight) n t
  edge_taken =
      (led_to_edge t (visited l m n) here.weight here.edges (n / m % here.weight) n is_legal here.node_is (mod-lt (n / m) weight_positive)).0.1
      (rw (← here.step_is) led_to)

-- In a record

-- only a legal record has a node to visit, on the path of one of the 64 lines
module _ (rows : List ℕ) {L l m n : ℕ} (here : Visits (tree_of_rows rows) L l m n) where
  stands_somewhere : path L (tree_of_rows rows) ≡ None → ⊥
  unfolding path_of
  stands_somewhere absent = let none_there : l < 0 = rw absent at here.level_below in omega arith

  record_legal : legal rows ≡ true
  unfolding tree_of_rows path
  record_legal = not-eq-not.0 λ illegal. stands_somewhere (ap (path L) (tree_of_illegal (plan_of rows) illegal))

  line_below : L < 64
  unfolding tree_of_rows
  line_below = elim (dec_lt L 64) [ yes less ↦ less | no more ↦ absurd (stands_somewhere (tree_of_path_beyond (plan_of rows) L (omega arith))) ]

  pub visits_within : (legal rows ≡ true) × (L < 64) × (l < length (path_at rows L))
  visits_within = (record_legal, line_below, rw (paths_on_record rows record_legal L line_below) here.level_below)

module _ (rows : List ℕ) (is_legal : legal rows ≡ true) where
  -- At a level of line L's path a node is visited exactly when what is carried are the numbers of the rows above it

  module _ (L : ℕ) (below : L < 64) where
    same_path : path_at rows L ≡ path_of L (tree_of_rows rows)
    same_path = paths_on_record rows is_legal L below

    node_here : {l : ℕ} → l < length (path_at rows L) → NodeOnPath L (tree_of_rows rows) l (path_at rows L)
    node_here {l} long = node_on_path (tree_of_rows rows) (path_at rows) (paths_on_record rows is_legal) L l below long

    carried_place : (n : ℕ) {l m : ℕ} → Carried rows L m (n % m) l → visited l m n ≡ place_on l (path_at rows L)
    carried_place n {l} carried i = record { level = l; offset = carried.sum_is i }

    module _ {l m n : ℕ} where
      visits_carried : Visits (tree_of_rows rows) L l m n → Carried rows L m (n % m) l
      unfolding at way step present
      visits_carried here =
          let above : take l (path_at rows L) ≡ way (visited l m n) (tree_of_rows rows) = ap (take l) same_path ∙ here.rows_above in
          record {
            within = omega (arith, (visits_within rows here).2);
            product_is = here.step_is ∙ ap product (sym above);
            sum_is = sym (ap sum above ∙ way_sum l (n % m) (tree_of_rows rows) (ap present here.node_is));
          }

      carried_visits : l < length (path_at rows L) → Carried rows L m (n % m) l → Visits (tree_of_rows rows) L l m n
      unfolding step
      carried_visits long carried =
          let node_is = ap (λ a. at a (tree_of_rows rows)) (carried_place n carried) ∙ (node_here long).node_is in
          let way_is = ap (λ a. way a (tree_of_rows rows)) (carried_place n carried) ∙ (node_here long).way_is in
          let step_is : m ≡ step (visited l m n) (tree_of_rows rows) = carried.product_is ∙ ap product (sym way_is) in
          record {
            weight = (row_of l (path_at rows L)).weight;
            edges = (node_here long).edges;
            node_is = node_is;
            level_below = rw same_path at long;
            rows_above = ap (take l) (sym same_path) ∙ sym way_is;
            step_is = step_is;
            step_at_most = rw step_is (step_at_most_2047 (tree_of_rows rows) (visited l m n) _ _ (legal_on_record rows) node_is);
          }

      -- w was read as the node's weight
      module _ (here : Visits (tree_of_rows rows) L l m n) {w : ℕ} (read : w ≡ (row_at rows L l).weight) where
        visits_weight : here.weight ≡ w
        visits_weight =
            let long = (visits_within rows here).2 in
            let one_node = sym here.node_is ∙ ap (λ a. at a (tree_of_rows rows)) (carried_place n (visits_carried here)) ∙ (node_here long).node_is in
            let one_weight : here.weight ≡ (row_of l (path_at rows L)).weight = cc in
            one_weight ∙ weight_read rows L long read

        visits_led_to : LeadsTo m w (n % m) (n / m % w) n
        visits_led_to = rw visits_weight at (led_to (tree_of_rows rows) (legal_on_record rows) here)

        -- (Asking the plan, 1) the walk over the tree takes there the edge that is selected
        pub visited_edge_taken : TakesEdge (visited l m n) w (n / m % w) n (tree_of_rows rows)
        visited_edge_taken = rw visits_weight at (edge_taken (tree_of_rows rows) (legal_on_record rows) here)

    -- the root, which every open line's path goes through
    pub visits_root : (n : ℕ) → 0 < length (path_at rows L) → Visits (tree_of_rows rows) L 0 1 n
    visits_root n long = carried_visits long (subst (λ (r : ℕ). Carried rows L 1 r 0) (sym (mod-one n)) (carried_start rows L))

-- the node at level l of line M's path is visited, w was read as its weight, and line N was found under the selected edge
module _ (rows : List ℕ) {M l m n : ℕ} (here : Visits (tree_of_rows rows) M l m n) {w : ℕ} (read : w ≡ (row_at rows M l).weight)
    {N : ℕ} (under : line_under (path_at rows) (path_at rows M) l (n / m % w) ≡ Some N) where
  abbrev given : (legal rows ≡ true) × (M < 64) × (l < length (path_at rows M))
  given = visits_within rows here

  within : (N < 64) × (l < length (path_at rows N))
  within = line_under_within (path_at rows) (path_at rows M) l (n / m % w) N under

  takes : (same_node l (path_at rows M) (path_at rows N) ≡ true) × ((row_of l (path_at rows N)).edge ≡ n / m % w)
  takes = line_under_takes (path_at rows) (path_at rows M) l (n / m % w) N under

  stands : (K : ℕ) → K < 64 → l < length (path_at rows K) → path K (tree_of_rows rows) ≡ Some (path_at rows K)
  stands K = family_path (tree_of_rows rows) (path_at rows) (paths_on_record rows given.0) K l

  abbrev M_stands : path M (tree_of_rows rows) ≡ Some (path_at rows M)
  M_stands = stands M given.1 given.2

  abbrev N_stands : path N (tree_of_rows rows) ≡ Some (path_at rows N)
  N_stands = stands N within.0 within.1

  -- N's path has the same rows above the node, so that the same numbers are carried
  same_above : take l (path_at rows N) ≡ take l (path_at rows M)
  same_above = ((same_node_exactly M N (tree_of_rows rows) l (path_at rows M) (path_at rows N) M_stands N_stands given.2).0 takes.0).0

  carried_on : Carried rows N m (n % m) l
  carried_on =
      let carried = visits_carried rows given.0 M given.1 here in
      record {
        within = omega (arith, within.1);
        product_is = carried.product_is ∙ ap product (sym same_above);
        sum_is = carried.sum_is ∙ ap sum (sym same_above);
      }

  -- and the node's weight in its row there, with the selected edge
  weight_there : w ≡ (row_at rows N l).weight
  weight_there =
      sym (weight_read rows M given.2 read)
      ∙ sym (same_node_weight M (tree_of_rows rows) l (path_at rows M) M_stands given.2 N (path_at rows N) N_stands takes.0)
      ∙ ap (λ (r : Row). r.weight) (row_in_path rows N within.1)

  edge_there : n / m % w ≡ (row_at rows N l).edge
  edge_there = sym takes.1 ∙ ap (λ (r : Row). r.edge) (row_in_path rows N within.1)

  -- where it goes on, the next node on it is visited too
  pub visits_child : eqb (length (path_at rows N)) (suc l) ≡ false → Visits (tree_of_rows rows) N (l + 1) (m * w) n
  unfolding LeadsTo
  visits_child ends =
      let next_node = through_next (path_at rows) (path_at rows M) l (n / m % w) N under ends in
      let offset = visits_led_to rows given.0 M given.1 here read in
      carried_visits rows given.0 N within.0 next_node
      (subst (λ (r : ℕ). Carried rows N (m * w) r (l + 1)) (sym offset) (carried_row carried_on within.1 edge_there weight_there))
