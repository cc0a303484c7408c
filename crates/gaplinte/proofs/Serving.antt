-- What a call of the library makes of what the call below it gave: the number that it answers, and the numbers that it writes.
-- Assumes nothing.
use Rattle.std.specs.Prelude.{Result, Ok, Err, MatchResult, IsOkAnd, IfOk, if◌then◌else◌}
use Prim.Native.Nat.{ℕ}
use mathlib.Core.Path.{◌≡◌, refl, ap, ◌∙◌}
use mathlib.Core.Bool.{Bool, true, false}
use mathlib.Core.List.{List}
use lib.Dec.{ltb}
use lib.IntN.{ℤ}
use mir.Syntax.{w64}
use mir.Val.{to_z, of_z}
use Rattle.tree.specs.declared.refusal.Refusal.{Refusal}
use Rattle.tree.specs.Answered.{outcome_of, refusal_in}
use Rattle.tree.specs.Refusals.{first_refusal, line_above_63}
use Rattle.tree.specs.Calls.{Outcome, gives, gives_unless}
use Rattle.orders.specs.Packing.{kind_above_1, period_above_4095, packing_refusal, packing}
use Rattle.gaplinte.specs.Answer.{answer_number, IsAnswer, zero_value, numbers_or}
use Rattle.gaplinte.proofs.Answering.{answer_read_back}

-- the outcome of `map`: f of what the call gave, or its refusal
pub mapped : {A B : Type 0} (f : A → B) (r : Result A Refusal) (s : Result B Refusal) {P : A → B → Type 0} →
    MatchResult r (λ x. IsOkAnd s (P x)) (λ e. s ≡ Err e) → ((x : A) (y : B) → P x y → y ≡ f x) → outcome_of (λ y. y) s ≡ outcome_of f r
unfolding outcome_of
mapped f (Ok x) (Ok y) cases is = ap gives (is x y cases)
mapped f (Ok x) (Err e) cases is = absurd cases
mapped f (Err e) s cases is = ap (outcome_of (λ y. y)) cases

-- what holds of f of all that a call gave holds of what `map` gave
pub if_mapped : {A B : Type 0} (f : A → B) (r : Result A Refusal) (s : Result B Refusal) (Q : B → Type 0) →
    outcome_of (λ y. y) s ≡ outcome_of f r → IfOk r (λ x. Q (f x)) → IfOk s Q
unfolding outcome_of
if_mapped f (Ok x) (Ok y) Q same holds = let is : y ≡ f x = cc in rw is holds
if_mapped f (Err e) (Ok y) Q same holds = cc
if_mapped f r (Err e) Q same holds = tt

-- what holds of all that a call can give holds of what it gave
pub if_given : {A B : Type 0} (told : A → B) (r : Result A Refusal) (o : Outcome B) {P : A → Type 0} → outcome_of told r ≡ o → ((a : A) → gives (told a) ≡ o → P a) → IfOk r P
unfolding outcome_of
if_given told (Ok a) o is each = each a is
if_given told (Err e) o is each = tt

-- a call that answers f of what the call below it gave
pub valued : {A : Type 0} (f : A → ℕ) (r : Result A Refusal) (s : Result ℕ Refusal) {P : A → ℕ → Type 0} {o : Outcome ℕ} {n : ℤ} →
    MatchResult r (λ x. IsOkAnd s (P x)) (λ e. s ≡ Err e) → ((x : A) (y : ℕ) → P x y → y ≡ f x) → outcome_of f r ≡ o → IsAnswer (outcome_of (λ y. y) s) n →
    to_z w64 (of_z w64 n) ≡ answer_number o
valued f r s cases is given answered = answer_read_back _ _ answered ∙ ap answer_number (mapped f r s cases is ∙ given)

-- a call that gives nothing has the value 0
pub done_told : (r : Result Unit Refusal) → outcome_of {B = ℕ} (λ u. 0) r ≡ gives_unless (refusal_in r) 0
unfolding outcome_of gives_unless refusal_in
done_told (Ok u) = refl
done_told (Err e) = refl

-- a call that writes what it gives into a record that is lent: its answer, and the numbers there, as found where it is refused
pub record Written {A : Type 0} (numbers : A → List ℕ) (lent after : List ℕ) (o : Outcome A) (n : ℤ) : Type 0 where
  pub answer_is : n ≡ answer_number (zero_value o)
  pub numbers_are : after ≡ numbers_or numbers lent o

pub written : {A B : Type 0} (told : A → B) (numbers : B → List ℕ) (r : Result A Refusal) (s : Result (List ℕ) Refusal) {P : A → List ℕ → Type 0} {lent after : List ℕ} {o : Outcome B} {n : ℤ} →
    outcome_of told r ≡ o → MatchResult r (λ x. IsOkAnd s (P x)) (λ e. s ≡ Err e) → ((x : A) (ns : List ℕ) → P x ns → ns ≡ numbers (told x)) →
    IsAnswer (zero_value (outcome_of (λ ns. ns) s)) n → MatchResult s (λ ns. after ≡ ns) (λ _. after ≡ lent) → Written numbers lent after o (to_z w64 (of_z w64 n))
unfolding outcome_of zero_value numbers_or
written told numbers (Ok x) (Ok ns) given cases are is left = rw (← given) (record { answer_is = answer_read_back _ _ is; numbers_are = left ∙ are x ns cases })
written told numbers (Ok x) (Err e) given cases are is left = absurd cases
written told numbers (Err e) (Ok ns) given cases are is left = cc
written told numbers (Err e) (Err d) given cases are is left = let same : d ≡ e = cc in rw (← given, ← same) (record { answer_is = answer_read_back _ _ is; numbers_are = left })

-- 4,096 stands for every period above 4,095
pub packing_stands_for : (k L p : ℕ) → packing k L (if ltb 4095 p then 4096 else p) ≡ packing k L p
unfolding packing packing_refusal first_refusal period_above_4095 gives_unless
packing_stands_for k L p = by_test (ltb 4095 p) refl (kind_above_1 k) refl (line_above_63 L) refl
  where
    by_test : (large : Bool) → ltb 4095 p ≡ large → (above_1 : Bool) → kind_above_1 k ≡ above_1 → (above_63 : Bool) → line_above_63 L ≡ above_63 →
        packing k L (if large then 4096 else p) ≡ packing k L p
    by_test false e above_1 f above_63 g = refl
    by_test true e true f above_63 g = rw f
    by_test true e false f true g = rw (f, g)
    by_test true e false f false g = rw (f, g, e)
