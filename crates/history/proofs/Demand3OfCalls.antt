-- Demand 3 of the program's own calls (specs/Ran.antt): a list that was run has the answers and the tree of the rules, so the claim holds of it.
-- Assumes nothing.
use Prim.Native.Nat.{ℕ}
use native.Mathlib.Omega.{arith}
use mathlib.Core.Path.{◌≡◌, refl, sym, ◌∙◌, ap, subst}
use mathlib.Core.List.{List, [], ◌∷◌}
use mathlib.Core.Logic.{◌↔◌}
use Rattle.std.specs.Prelude.{Option, None, Some}
use Rattle.tree.specs.declared.Plan.{Plan}
use Rattle.tree.specs.Tree.{Tree, nothing}
use Rattle.tree.specs.Shape.{Legal}
use Rattle.tree.specs.Asking.{owned_by, owner_or_rest}
use Rattle.tree.specs.Calls.{Call, open_line, close_line, Answer, refusal, reply, carried_out, answer_unless, answer, after}
use Rattle.tree.specs.Lists.{Entry, calls_of, ledger_of, ledger_after, reference_from, answered_from}
use Rattle.tree.specs.Demand3.{Demand3From, Demand3}
use Rattle.tree.specs.Record.{tree_of, record_of}
use Rattle.tree.proofs.Resting.{owned_exactly}
use Rattle.tree.proofs.Demand3.{demand_3_from}
use Rattle.bridge.proofs.TreeOfRecord.{tree_of_legal}
use Rattle.plan.specs.declared.ask.OwnerAnswer.{OwnerAnswer}
use Rattle.plan.specs.declared.ask.OwnerAnswer.TheVariants.{Line, Idle}
use Rattle.plan.specs.Ask.{owner_answer}
use Rattle.plan.specs.Meets.{empty_plan, plan_unless, plan_after, Meets}
use Rattle.plan.proofs.Changes.{empty_tree, plan_after_tree}
use Rattle.history.specs.Ran.{handed_on, Ran, Demand3OfCalls, NamesOwner, OwnerOfCalls}

-- One call

-- the plan that a call returns is the one to hand on: after a refusal it is the one given
pub returned_is_handed_on : (c : Call) (plan : Plan) (a : Answer) (returned : Plan) → Meets c plan a returned → handed_on a plan returned ≡ returned
unfolding plan_after plan_unless answer answer_unless reply handed_on
returned_is_handed_on c plan a returned meets =
    rw (meets.answer_is, meets.plan_is) (by_refusal c (refusal c (tree_of plan)))
  where
    by_refusal : (k : Call) (o : Option ℕ) →
        handed_on (answer_unless o (reply k (tree_of plan))) plan (plan_unless o plan (record_of (carried_out k (tree_of plan))))
        ≡ plan_unless o plan (record_of (carried_out k (tree_of plan)))
    by_refusal k (Some n) = refl
    by_refusal (open_line L p) None = refl
    by_refusal (close_line L) None = refl

-- Along a list

-- what the rules say of the calls of `entries`, from the tree t
pub record ByTheRules (t : Tree) (entries : List Entry) (last : Tree) : Type 0 where
  pub answers : entries ≡ answered_from t (calls_of entries)
  pub tree : last ≡ reference_from t (calls_of entries)

pub ran_from : (entries : List Entry) (first last : Plan) → Ran first entries last → ByTheRules (tree_of first) entries (tree_of last)
unfolding Ran calls_of answered_from reference_from
ran_from [] first last ran = record { answers = refl; tree = ap tree_of ran }
ran_from (x ∷ xs) first last ran =
    let meets = ran.1 in
    let handed = returned_is_handed_on x.call first x.answer ran.0 meets in
    let next : tree_of (handed_on x.answer first ran.0) ≡ after x.call (tree_of first) = ap tree_of (handed ∙ meets.plan_is) ∙ plan_after_tree x.call first in
    let later = rw next at (ran_from xs (handed_on x.answer first ran.0) last ran.2) in
    record { answers = λ i. record { call = x.call; answer = meets.answer_is i } ∷ later.answers i; tree = later.tree }

-- Demand 3

-- the claim holds of what has the answers and the tree of the rules
pub rules_demand_3 : (first : Tree) → Legal first → (entries : List Entry) (t : Tree) → ByTheRules first entries t → Demand3From first entries t
rules_demand_3 first legal entries t rules =
    subst (λ (xs : List Entry). Demand3From first xs t) (sym rules.answers) (rw rules.tree (demand_3_from first legal (calls_of entries)))

-- of every list, on whatever plan record it is run
pub demand_3_from_plan : (entries : List Entry) (first last : Plan) → Ran first entries last → Demand3From (tree_of first) entries (tree_of last)
demand_3_from_plan entries first last ran = rules_demand_3 (tree_of first) (tree_of_legal first) entries (tree_of last) (ran_from entries first last ran)

pub demand_3_of_calls : Demand3OfCalls
unfolding Demand3OfCalls Demand3
demand_3_of_calls entries plan ran = rw empty_tree at (demand_3_from_plan entries empty_plan plan ran)

-- The owner call

-- an answer of the owner call is a line where document 01's answer is that line
line_named : (a : OwnerAnswer) (L : ℕ) → (a ≡ Line L) ↔ (owner_answer a ≡ owned_by L)
unfolding owner_answer
line_named (Line n) L = (λ e. cc, λ e. cc)
line_named (Idle g) L = (λ e. ap owner_answer e, λ e. let z : ◌≡◌ {A = ℕ} 0 1 = cc in absurd (omega arith))

-- where the claim holds, the owner call names the owner
pub demand_3_names_owner : (first : Tree) (entries : List Entry) (t : Tree) → Demand3From first entries t →
    (round : ℕ) (a : OwnerAnswer) → owner_answer a ≡ owner_or_rest round t → NamesOwner (ledger_after first entries) round a
unfolding NamesOwner
demand_3_names_owner first entries t claim round a asked L =
    let named = line_named a L in
    let answered = owned_exactly round t L in
    let owned = claim.ownership round L in
    (λ e. owned.0 (answered.0 (sym asked ∙ named.0 e)), λ fits. named.1 (asked ∙ answered.1 (owned.1 fits)))

pub owner_of_calls : OwnerOfCalls
unfolding OwnerOfCalls Demand3OfCalls Demand3 ledger_of
owner_of_calls entries plan ran = demand_3_names_owner nothing entries (tree_of plan) (demand_3_of_calls entries plan ran)
