-- The tree of a record (`tree_of` of crate tree, specs/Record.antt): it is legal, and each line has the path that the record holds for it.
-- Assumes nothing.
use Rattle.std.specs.Prelude.{if◌then◌else◌, Option, None, Some, unwrap_or}
use Prim.Native.Nat.{ℕ, ◌<◌, ◌≤◌}
use native.Mathlib.Omega.{arith}
use mathlib.Core.Path.{◌≡◌, refl, sym, ◌∙◌, ap}
use mathlib.Core.Bool.{Bool, true, false, not}
use mathlib.Core.List.{List, [], ◌∷◌}
use borrow.Author.Tests.{lt-ltb, le-ltb}
use Rattle.tree.specs.declared.Row.{Row}
use Rattle.tree.specs.declared.Plan.{Plan}
use Rattle.tree.specs.Search.{found}
use Rattle.tree.specs.Tree.{nothing, path, is_open, path_of}
use Rattle.tree.specs.Shape.{Legal}
use Rattle.tree.specs.Record.{path_at, no_rows, legal, grown, tree_of}
use Rattle.bridge.specs.Rows.{tree_of_rows}
use Rattle.bridge.proofs.ClassOnPaths.{PathsOf}
use Rattle.bridge.proofs.Grown.{path_held, grown_path, grown_legal}

tree_of_grown : (plan : Plan) → legal plan.rows ≡ true → tree_of plan ≡ grown plan.rows 64
unfolding tree_of
tree_of_grown plan h = rw h

pub tree_of_illegal : (plan : Plan) → legal plan.rows ≡ false → tree_of plan ≡ nothing
unfolding tree_of
tree_of_illegal plan h = rw h

pub tree_of_legal : (plan : Plan) → Legal (tree_of plan)
unfolding tree_of Legal
tree_of_legal plan = go (legal plan.rows) refl
  where
    go : (b : Bool) → legal plan.rows ≡ b → Legal (if b then grown plan.rows 64 else nothing)
    go true e = grown_legal plan.rows e 64 (omega arith)
    go false e = tt

pub tree_of_path : (plan : Plan) (M : ℕ) → legal plan.rows ≡ true → M < 64 → path M (tree_of plan) ≡ path_held (path_at plan.rows M)
tree_of_path plan M is_legal below =
    ap (path M) (tree_of_grown plan is_legal) ∙ grown_path plan.rows is_legal 64 (omega arith) M ∙ rw (lt-ltb M 64 below)

pub tree_of_path_of : (plan : Plan) (M : ℕ) → legal plan.rows ≡ true → M < 64 → path_of M (tree_of plan) ≡ path_at plan.rows M
unfolding path_of no_rows
tree_of_path_of plan M is_legal below = ap (λ (o : Option (List Row)). unwrap_or o []) (tree_of_path plan M is_legal below) ∙ held_rows (path_at plan.rows M)
  where
    held_rows : (ps : List Row) → unwrap_or (path_held ps) [] ≡ ps
    held_rows [] = refl
    held_rows (r ∷ rs) = refl

-- the paths of the record are those of its tree
pub tree_of_paths : (plan : Plan) → legal plan.rows ≡ true → PathsOf (tree_of plan) (path_at plan.rows)
tree_of_paths plan is_legal M below = sym (tree_of_path_of plan M is_legal below)

pub tree_of_path_beyond : (plan : Plan) (M : ℕ) → 64 ≤ M → path M (tree_of plan) ≡ None
unfolding tree_of path
tree_of_path_beyond plan M beyond = go (legal plan.rows) refl
  where
    go : (b : Bool) → legal plan.rows ≡ b → path M (if b then grown plan.rows 64 else nothing) ≡ None
    go true e = grown_path plan.rows e 64 (omega arith) M ∙ rw (le-ltb M 64 beyond)
    go false e = refl

-- By the numbers of a record

module _ (rows : List ℕ) where
  pub legal_on_record : Legal (tree_of_rows rows)
  unfolding tree_of_rows
  legal_on_record = tree_of_legal (record { rows = rows })

  module _ (is_legal : legal rows ≡ true) where
    pub paths_on_record : PathsOf (tree_of_rows rows) (path_at rows)
    unfolding tree_of_rows
    paths_on_record = tree_of_paths (record { rows = rows }) is_legal

    -- a line is open in the tree where its path in the record has rows
    pub open_on_record : (L : ℕ) → L < 64 → is_open L (tree_of_rows rows) ≡ not (no_rows (path_at rows L))
    unfolding tree_of_rows is_open found
    open_on_record L below = ap found (tree_of_path (record { rows = rows }) L is_legal below) ∙ by_rows (no_rows (path_at rows L))
      where
        by_rows : (b : Bool) → found (if b then None else Some (path_at rows L)) ≡ not b
        by_rows true = refl
        by_rows false = refl
