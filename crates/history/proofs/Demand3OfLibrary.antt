-- Demand 3 of the exported calls (specs/RanInLibrary.antt): a list that was run in the library was run on its record, with the answers that are read out of the numbers.
-- Assumes nothing.
use Prim.Native.Nat.{ℕ, zero, suc, ◌+◌, ◌<◌, ◌≤◌}
use native.Mathlib.Omega.{arith}
use mathlib.Core.Path.{◌≡◌, refl, sym, ◌∙◌, ap}
use mathlib.Core.Logic.{◌↔◌}
use mathlib.Core.List.{List, [], ◌∷◌}
use Rattle.std.specs.Prelude.{Option, None, Some}
use lib.IntN.{ℤ, pos, neg_ℤ}
use lib.ListN.{replicate}
use Rattle.tree.specs.Tree.{Tree, nothing}
use Rattle.tree.specs.Asking.{OwnerOrRest, owned_by, idle_for, owner_or_rest}
use Rattle.tree.specs.Calls.{Call, open_line, close_line, refused, refusal, reply, answer_unless, answer, gives}
use Rattle.tree.specs.Lists.{Entry, ledger_of, ledger_after}
use Rattle.tree.specs.Demand3.{Demand3From, Demand3}
use Rattle.tree.proofs.Numbering.{owner_below_64}
use Rattle.tree.proofs.Resting.{owned_exactly}
use Rattle.bridge.specs.Rows.{tree_of_rows, CarriedOut}
use Rattle.bridge.proofs.TreeOfRecord.{legal_on_record}
use Rattle.plan.specs.Meets.{empty_plan}
use Rattle.bridge.proofs.RecordBlocks.{zeros_are_empty}
use Rattle.lists.proofs.AnswersFit.{Small, refusal_small}
use Rattle.gaplinte.specs.Answer.{answer_number}
use Rattle.gaplinte.specs.Served.{change_outcome, ChangeServed, owner_value, owner_outcome}
use Rattle.history.specs.RanOnRows.{RanOnRows, Demand3OfRows}
use Rattle.history.specs.RanInLibrary.{Answered, answer_told, entries_told, RanInLibrary, Demand3OfLibrary, NumberNamesOwner, OwnerOfLibrary, NumberTellsRest, RestOfLibrary}
use Rattle.history.proofs.Demand3OfRows.{demand_3_of_rows}
use Rattle.history.proofs.RestOfCalls.{rest_by_ledger}

-- One call

refusal_is_told : (c : Call) (n : ℕ) → 0 < n → answer_told c (neg_ℤ (pos n)) ≡ refused n
unfolding answer_told
refusal_is_told c zero positive = absurd (omega arith)
refusal_is_told c (suc n) positive = refl

reply_is_told : (c : Call) (t : Tree) → answer_told c (answer_number (change_outcome (reply c t))) ≡ reply c t
unfolding answer_told answer_number change_outcome reply
reply_is_told (open_line L p) t = refl
reply_is_told (close_line L) t = refl

-- what is read out of the number of the answer that the rules give is that answer
answer_is_told : (c : Call) (t : Tree) → answer_told c (answer_number (change_outcome (answer c t))) ≡ answer c t
unfolding Small answer answer_unless answer_number change_outcome
answer_is_told c t = by_refusal (refusal c t) (refusal_small c t)
  where
    by_refusal : (o : Option ℕ) → Small o → answer_told c (answer_number (change_outcome (answer_unless o (reply c t)))) ≡ answer_unless o (reply c t)
    by_refusal None small = reply_is_told c t
    by_refusal (Some n) small = refusal_is_told c n small.0

pub served_is_carried_out : (c : Call) (before after : List ℕ) (r : ℤ) → ChangeServed c before after r → CarriedOut c before after (answer_told c r)
served_is_carried_out c before after r served =
    record { answer_is = ap (answer_told c) served.answer_is ∙ answer_is_told c (tree_of_rows before); rows_are = served.rows_are }

-- Along a list

pub ran_on_rows : (calls : List Answered) (first last : List ℕ) → RanInLibrary first calls last → RanOnRows first (entries_told calls) last
unfolding RanInLibrary RanOnRows entries_told
ran_on_rows [] first last ran = ran
ran_on_rows (x ∷ xs) first last ran =
    (ran.0, served_is_carried_out x.call first ran.0 x.number ran.1, ran_on_rows xs ran.0 last ran.2)

-- Demand 3

pub demand_3_of_library : Demand3OfLibrary
unfolding Demand3OfLibrary Demand3OfRows empty_plan
demand_3_of_library calls rows ran =
    demand_3_of_rows (entries_told calls) rows (rw zeros_are_empty at (ran_on_rows calls (replicate 1408 0) rows ran))

-- The owner call

-- lines are below 64
line_below : (round : ℕ) (rows : List ℕ) (M : ℕ) → owner_or_rest round (tree_of_rows rows) ≡ owned_by M → M < 64
line_below round rows M answered = owner_below_64 round (tree_of_rows rows) M (legal_on_record rows) ((owned_exactly round (tree_of_rows rows) M).0 answered)

-- the number for an owner names line L exactly when that owner is L: 64 and more, which stand for none, are no lines
line_is_told : (o : OwnerOrRest) → ((M : ℕ) → o ≡ owned_by M → M < 64) → (L : ℕ) → ((answer_number (gives (owner_value o)) ≡ pos L) × (L ≤ 63)) ↔ (o ≡ owned_by L)
unfolding answer_number owner_value
line_is_told (owned_by M) below L = (λ told. cc, λ owned. (cc, let small = below L owned in omega arith))
line_is_told (idle_for g) below L =
    (λ told. let idle : 64 + g ≡ L = cc in absurd (omega arith), λ owned. let z : ◌≡◌ {A = ℕ} 0 1 = cc in absurd (omega arith))

-- and one that is 64 and g tells the rest g
rest_is_told : (o : OwnerOrRest) → ((M : ℕ) → o ≡ owned_by M → M < 64) → (g : ℕ) → answer_number (gives (owner_value o)) ≡ pos (64 + g) → o ≡ idle_for g
unfolding answer_number owner_value
rest_is_told (owned_by M) below g told = let idle : M ≡ 64 + g = cc in absurd (omega (arith, below M refl))
rest_is_told (idle_for h) below g told = let same : 64 + h ≡ 64 + g = cc in ap idle_for (omega arith)

-- where demand 3 holds of a list and the record that it left
module _ (first : Tree) (entries : List Entry) (rows : List ℕ) (claim : Demand3From first entries (tree_of_rows rows)) where
  pub number_names_owner : (round : ℕ) (r : ℤ) → r ≡ answer_number (owner_outcome round rows) → NumberNamesOwner (ledger_after first entries) round r
  unfolding NumberNamesOwner owner_outcome
  number_names_owner round r asked L =
      let named = line_is_told (owner_or_rest round (tree_of_rows rows)) (line_below round rows) L in
      let answered = owned_exactly round (tree_of_rows rows) L in
      let owned = claim.ownership round L in
      (λ told. owned.0 (answered.0 (named.0 (sym asked ∙ told.0, told.1))), λ fits. let line = named.1 (answered.1 (owned.1 fits)) in (asked ∙ line.0, line.1))

  pub number_tells_rest : (round : ℕ) (r : ℤ) → r ≡ answer_number (owner_outcome round rows) → NumberTellsRest (ledger_after first entries) round r
  unfolding NumberTellsRest owner_outcome
  number_tells_rest round r asked g told =
      rest_by_ledger first entries (tree_of_rows rows) (legal_on_record rows) claim round g
      (rest_is_told (owner_or_rest round (tree_of_rows rows)) (line_below round rows) g (sym asked ∙ told))

pub owner_of_library : OwnerOfLibrary
unfolding OwnerOfLibrary Demand3OfLibrary Demand3 ledger_of
owner_of_library calls rows ran = number_names_owner nothing (entries_told calls) rows (demand_3_of_library calls rows ran)

pub rest_of_library : RestOfLibrary
unfolding RestOfLibrary Demand3OfLibrary Demand3 ledger_of
rest_of_library calls rows ran = number_tells_rest nothing (entries_told calls) rows (demand_3_of_library calls rows ran)
