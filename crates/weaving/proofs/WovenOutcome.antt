-- What weaving two legal records gives (crate tree, specs/Weaving.antt), check by check.
-- Assumes nothing.
use Rattle.std.specs.Prelude.{None}
use Prim.Native.Nat.{ℕ}
use mathlib.Core.Path.{◌≡◌, sym, ◌∙◌, ap}
use mathlib.Core.Bool.{true, false, ◌||◌}
use mathlib.Core.List.{List}
use lib.ListN.{replicate}
use Rattle.tree.specs.declared.Plan.{Plan}
use Rattle.tree.specs.Refusals.{first_refusal}
use Rattle.tree.specs.Record.{path_at, legal}
use Rattle.tree.specs.Calls.{Outcome, gives, refuses, gives_unless}
use Rattle.tree.specs.Weaving.{open_in_both, doubled_out_of_range, weave_refusal, weave_outcome}
use Rattle.bridge.specs.Rows.{plan_of, tree_of_rows, plan_given}
use Rattle.weaving.specs.Sides.{with_side}
use Rattle.weaving.proofs.WovenRecord.{woven_record}

module _ (a b : List ℕ) where
  abbrev given : Outcome Plan
  given = plan_given (weave_outcome (tree_of_rows a) (tree_of_rows b))

  pub refused_15 : open_in_both (tree_of_rows a) (tree_of_rows b) ≡ true → given ≡ refuses 15
  unfolding plan_given weave_outcome gives_unless weave_refusal first_refusal
  refused_15 both = rw both

  module _ (not_both : open_in_both (tree_of_rows a) (tree_of_rows b) ≡ false) where
    pub refused_16 : (doubled_out_of_range (tree_of_rows a) || doubled_out_of_range (tree_of_rows b)) ≡ true → given ≡ refuses 16
    unfolding plan_given weave_outcome gives_unless weave_refusal first_refusal
    refused_16 passes = rw (not_both, passes)

    module _ (in_range_a : doubled_out_of_range (tree_of_rows a) ≡ false) (in_range_b : doubled_out_of_range (tree_of_rows b) ≡ false) where
      none_refuses : weave_refusal (tree_of_rows a) (tree_of_rows b) ≡ None
      unfolding weave_refusal first_refusal
      none_refuses = rw (not_both, in_range_a, in_range_b)

      pub plan_woven : legal a ≡ true → legal b ≡ true → {first both : List ℕ} → first ≡ with_side (replicate 1408 0) (path_at a) 0 64 → both ≡ with_side first (path_at b) 1 64 →
          given ≡ gives (plan_of both)
      unfolding plan_given weave_outcome gives_unless
      plan_woven legal_a legal_b side_0 side_1 =
          rw none_refuses (ap (λ (rows : List ℕ). gives (plan_of rows)) (sym (side_1 ∙ rw side_0 (woven_record a b legal_a legal_b none_refuses))))
