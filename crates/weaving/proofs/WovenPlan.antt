-- The plan that weaving gives (`PlansWoven`, specs/Sides.antt) has the woven tree.
-- Assumes nothing.
use mathlib.Core.Path.{◌≡◌, ◌∙◌, ap}
use mathlib.Core.List.{List}
use Prim.Native.Nat.{ℕ}
use Rattle.std.specs.Prelude.{None, Ok}
use Rattle.tree.specs.declared.Plan.{Plan}
use Rattle.tree.specs.Tree.{Tree}
use Rattle.tree.specs.Calls.{gives}
use Rattle.tree.specs.Answered.{outcome_of}
use Rattle.tree.specs.Record.{tree_of, record_of}
use Rattle.tree.specs.Weaving.{woven, weave_refusal, weave_outcome}
use Rattle.tree.proofs.WovenLegal.{woven_legal, weave_gives}
use Rattle.bridge.specs.Rows.{tree_of_rows}
use Rattle.bridge.proofs.PlanGiven.{tree_given_by}
use Rattle.bridge.proofs.TreeOfRecord.{legal_on_record}
use Rattle.bridge.proofs.RecordRoundTrip.{record_has_tree}
use Rattle.weaving.specs.Sides.{PlansWoven}

module _ (a b : List ℕ) where
  -- the plan of a tree that weaving gives has that tree
  pub given_has_tree : (t : Tree) → weave_outcome (tree_of_rows a) (tree_of_rows b) ≡ gives t → tree_of (record_of t) ≡ t
  given_has_tree t given =
      let x = weave_gives _ _ t given in
      record_has_tree t (rw x.1 (woven_legal _ _ (legal_on_record a) (legal_on_record b) x.0))

  pub none_refuses : (first : Plan) → PlansWoven a b (Ok first) → weave_refusal (tree_of_rows a) (tree_of_rows b) ≡ None
  unfolding PlansWoven outcome_of
  none_refuses first told = let x = tree_given_by _ first told in (weave_gives _ _ x.tree x.given).0

  -- and it is the woven one
  pub tree_woven : (first : Plan) → PlansWoven a b (Ok first) → tree_of_rows first.rows ≡ woven (tree_of_rows a) (tree_of_rows b)
  unfolding PlansWoven outcome_of tree_of_rows
  tree_woven first told =
      let x = tree_given_by _ first told in
      ap tree_of x.plan_is ∙ given_has_tree x.tree x.given ∙ (weave_gives _ _ x.tree x.given).1
