-- The record after a node is joined is what the code writes: the paths that go through the node with two rows joined into one, and the others as they were.
-- Assumes nothing.
use Rattle.std.specs.Prelude.{if◌then◌else◌, Option, None, Some, unwrap_or}
use Prim.Native.Nat.{ℕ, zero, suc, ◌<◌, ◌≤◌}
use native.Mathlib.Omega.{arith}
use mathlib.Core.Path.{◌≡◌, refl, sym, ◌∙◌, ap, subst}
use mathlib.Core.Bool.{Bool, true, false}
use mathlib.Core.List.{List, [], ◌∷◌}
use mathlib.Core.Logic.{inl, inr}
use Rattle.std.proofs.lemmas.Nat.{mul-lt}
use Rattle.std.proofs.lemmas.Option.{none-some}
use lib.ListN.{length}
use Rattle.tree.specs.declared.Row.{Row}
use Rattle.tree.specs.Tree.{Tree, nothing, line, node, path, path_of, weight_of}
use Rattle.tree.specs.Asking.{rows_11}
use Rattle.tree.specs.Closing.{weight_below, join}
use Rattle.tree.specs.Record.{path_at, legal, numbers, record_of}
use Rattle.tree.specs.Search.{passing, first, or_else}
use Rattle.tree.specs.Shape.{LegalUnder, Alone, Legal}
use Rattle.tree.specs.Opening.{put, one_edge}
use Rattle.paths.specs.Rules.{same_node, change_lines, join_path, weight_below_on_paths}
use Rattle.bridge.specs.Joining.{along, at_level, weight_to_join, TakesThrough}
use Rattle.bridge.specs.Rows.{tree_of_rows, LegalWith}
use Rattle.tree.proofs.Standing.{path_found}
use Rattle.tree.proofs.JoinedUp.{Kept, kept_of_joins, join_keeps, kept_legal}
use Rattle.tree.proofs.Proper.{legal_proper}
use Rattle.tree.proofs.Put.{put_each}
use Rattle.paths.proofs.SameNode.{same_node_none}
use Rattle.paths.proofs.Blocks.{block, rows_by_blocks}
use Rattle.paths.proofs.ChangedLines.{set_lines_length, block_changed}
use Rattle.paths.proofs.JoiningPaths.{same_node_joined}
use Rattle.bridge.proofs.Route.{route_stands, path_route, route_path, no_route_path_none}
use Rattle.bridge.proofs.JoinedPaths.{join_along_route}
use Rattle.bridge.proofs.WeightOnPaths.{weight_on_paths_is, taken_path_long}
use Rattle.bridge.proofs.ClassOnPaths.{path_family}
use Rattle.bridge.proofs.TreeOfRecord.{legal_on_record, paths_on_record}
use Rattle.bridge.proofs.WrittenPaths.{Weighted, Written}
use Rattle.bridge.proofs.BlockPaths.{path_of_block}
use Rattle.bridge.proofs.RecordBlocks.{record_length, block_of_record}
use Rattle.bridge.proofs.ClearedRecord.{legal_block}
use Rattle.bridge.proofs.RecordRoundTrip.{path_of_written}
use Rattle.bridge.proofs.CarriedLegal.{recorded}
use Rattle.bridge.proofs.JoinLevels.{at_level_has}

-- A joined path fits a line's rows where the path did

join_path_length : (l : ℕ) (rs : List Row) → length (join_path l rs) ≤ length rs
unfolding join_path
join_path_length l [] = omega arith
join_path_length zero (r ∷ []) = omega arith
join_path_length zero (r ∷ s ∷ rs) = omega arith
join_path_length (suc l) (r ∷ rs) = omega (arith, join_path_length l rs)

weighted_joined : (l : ℕ) (rs : List Row) → Weighted rs → Weighted (join_path l rs)
unfolding join_path Weighted
weighted_joined l [] h = h
weighted_joined zero (r ∷ []) h = h
weighted_joined zero (r ∷ s ∷ rs) h = (mul-lt 0 0 r.weight s.weight h.0 h.1.0, h.1.1)
weighted_joined (suc l) (r ∷ rs) h = (h.0, weighted_joined l rs h.1)

written_joined : (l : ℕ) (rs : List Row) → Written rs → Written (join_path l rs)
written_joined l rs w =
    let most = w.at_most_11 in
    record { at_most_11 = omega (arith, join_path_length l rs); weighted = weighted_joined l rs w.weighted }

-- A root of weight 1 is not joined: its edge leads to a line

no_node_along : (n l : ℕ) (ps : List Row) → (weight_to_join (along l ps nothing) ≡ None) × (weight_to_join (along l ps (line n)) ≡ None)
unfolding along weight_to_join
no_node_along n l [] = (refl, refl)
no_node_along n zero (r ∷ rs) = (refl, refl)
no_node_along n (suc l) (r ∷ rs) = (refl, refl)

alone_not_joined : (l : ℕ) (ps : List Row) (t : Tree) → Alone t → weight_to_join (along l ps t) ≡ None
unfolding along weight_to_join weight_below passing first or_else weight_of one_edge put
alone_not_joined l [] t alone = refl
alone_not_joined zero (r ∷ rs) t alone = rw alone.tree refl
alone_not_joined (suc l) (r ∷ rs) t alone =
    rw alone.tree
    (put_each (λ x. weight_to_join (along l rs x) ≡ None) 0 (line alone.number) (λ e. nothing) (no_node_along alone.number l rs).1 (λ e other. (no_node_along alone.number l rs).0) r.edge)

not_alone_under : (t : Tree) → Legal t → (Alone t → ⊥) → LegalUnder 1 t
unfolding Legal LegalUnder
not_alone_under nothing legal other = tt
not_alone_under (line n) legal other = absurd legal
not_alone_under (node w f) (inl legal) other = legal
not_alone_under (node w f) (inr alone) other = absurd (other alone)

-- The record after one join

module _ (rows : List ℕ) (is_legal : legal rows ≡ true) (long : length rows ≡ 1408) (ps : List Row) (l : ℕ) (taken : ℕ → Bool) (takes : TakesThrough rows ps l taken)
    (v : ℕ) (one_weight : weight_below_on_paths (path_at rows) taken l ≡ Some v) where
  abbrev t : Tree
  t = tree_of_rows rows

  abbrev joined : Tree
  joined = at_level join l ps t

  one : weight_to_join (along l ps t) ≡ Some v
  one = sym (weight_on_paths_is rows is_legal ps l taken takes) ∙ one_weight

  kept : Kept t joined
  kept = at_level_has Kept kept_of_joins join join_keeps l ps t

  joined_is_legal : Legal joined
  joined_is_legal =
      let legal_before = legal_on_record rows in
      kept_legal t joined kept (not_alone_under t legal_before λ alone. none-some v (sym (alone_not_joined l ps t alone) ∙ one)) legal_before

  -- the record that the code writes
  abbrev changed : List ℕ
  changed = change_lines rows taken (join_path l) 64

  -- a line's path there
  abbrev path_after : ℕ → List Row
  path_after M = if taken M then join_path l (path_at rows M) else path_at rows M

  -- By blocks

  written_after : (M : ℕ) → M < 64 → Written (path_after M)
  written_after M below = by_test (taken M)
    where
      here : Written (path_at rows M)
      here = subst Written (sym (paths_on_record rows is_legal M below)) (path_of_written t (legal_on_record rows) M)

      by_test : (b : Bool) → Written (if b then join_path l (path_at rows M) else path_at rows M)
      by_test true = written_joined l (path_at rows M) here
      by_test false = here

  block_after : (M : ℕ) → M < 64 → block changed M ≡ numbers (rows_11 (path_after M))
  block_after M below = block_changed rows taken _ long 64 M (omega arith) below ∙ by_test (taken M)
    where
      by_test : (b : Bool) → (if b then numbers (rows_11 (join_path l (path_at rows M))) else block rows M)
          ≡ numbers (rows_11 (if b then join_path l (path_at rows M) else path_at rows M))
      by_test true = refl
      by_test false = legal_block rows M is_legal long below

  pub joined_path_at : (M : ℕ) → M < 64 → path_at changed M ≡ path_after M
  joined_path_at M below = path_of_block changed M (path_after M) (written_after M below) (block_after M below)

  -- The lines through a node down to the level are the same as before

  pub takes_still : (k : ℕ) → k ≤ l → (M : ℕ) → M < 64 → same_node k ps (path_at changed M) ≡ same_node k ps (path_at rows M)
  takes_still k within M below = ap (same_node k ps) (joined_path_at M below) ∙ by_test (taken M) refl
    where
      by_test : (b : Bool) → taken M ≡ b → same_node k ps (if b then join_path l (path_at rows M) else path_at rows M) ≡ same_node k ps (path_at rows M)
      by_test true on =
          same_node_joined k l ps (path_at rows M) within
          (taken_path_long rows is_legal ps l taken takes v one_weight M below on).0
      by_test false off = refl

  -- The joined tree has these paths

  -- what becomes of a path in the tree
  abbrev joined_rows : List Row → List Row
  joined_rows rs = if same_node l ps rs then join_path l rs else rs

  open_joined : (M : ℕ) (rs : List Row) → path M t ≡ Some rs → path M joined ≡ Some (joined_rows rs)
  open_joined M rs e = route_path M joined (joined_rows rs) (legal_proper joined joined_is_legal) (join_along_route M l ps t v rs one (path_route M t rs e))

  not_open_joined : (M : ℕ) → path M t ≡ None → path M joined ≡ None
  not_open_joined M e =
      no_route_path_none M joined λ rs h. path_found M t _ _ (kept.stood M _ _ (route_stands M joined rs h)) e

  no_rows_joined : joined_rows [] ≡ []
  no_rows_joined = rw (same_node_none l ps)

  joined_path_of : (M : ℕ) → M < 64 → path_of M joined ≡ path_after M
  unfolding path_of
  joined_path_of M below = by_path (path M t) refl ∙ ap (λ (b : Bool). if b then join_path l (path_at rows M) else path_at rows M) (sym (takes M below))
    where
      by_path : (o : Option (List Row)) → path M t ≡ o → unwrap_or (path M joined) [] ≡ joined_rows (path_at rows M)
      by_path None e =
          let empty : path_at rows M ≡ [] = paths_on_record rows is_legal M below ∙ ap (λ (o : Option (List Row)). unwrap_or o []) e in
          ap (λ (o : Option (List Row)). unwrap_or o []) (not_open_joined M e) ∙ sym (ap joined_rows empty ∙ no_rows_joined)
      by_path (Some rs) e =
          let same = path_family t (path_at rows) (paths_on_record rows is_legal) M rs below e in
          ap (λ (o : Option (List Row)). unwrap_or o []) (open_joined M rs e) ∙ ap joined_rows (sym same)

  pub joined_record : changed ≡ (record_of joined).rows
  joined_record =
      rows_by_blocks changed (record_of joined).rows (set_lines_length rows taken _ long 64 (omega arith)) (record_length joined) λ M below.
      block_after M below ∙ ap (λ (rs : List Row). numbers (rows_11 rs)) (sym (joined_path_of M below)) ∙ sym (block_of_record joined M below)

  pub joined_record_with : LegalWith changed joined
  joined_record_with = rw joined_record (recorded joined joined_is_legal)
