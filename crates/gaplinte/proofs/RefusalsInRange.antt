-- The calls are refused with 1 to 16 alone: each refusal is the number of a check, and each check has such a number.
-- Assumes nothing.
use Rattle.std.specs.Prelude.{Option, None, Some}
use Prim.Native.Nat.{ℕ, zero, suc}
use native.Mathlib.Omega.{arith}
use mathlib.Core.Bool.{true, false}
use mathlib.Core.List.{List, [], ◌∷◌}
use Rattle.tree.specs.Tree.{Tree, Place}
use Rattle.tree.specs.Refusals.{Check, refuse, first_refusal, line_refusal, reason_refusal}
use Rattle.tree.specs.Calls.{Outcome, gives, refuses, gives_unless, refusal_of}
use Rattle.tree.specs.Bits.{bits_of}
use Rattle.tree.specs.ImageReading.{and_then, read_field, read_row, read_path, read_line, read_lines, read_plan, behind_refusal, read_outcome}
use Rattle.tree.specs.Weaving.{weave_refusal}
use Rattle.orders.specs.Packing.{packing_refusal}
use Rattle.lists.specs.Lists.{list_refusal}
use Rattle.lists.proofs.AnswersFit.{Small}
use Rattle.gaplinte.specs.Answer.{InRange}

-- a refusal in range, if it is one
unfoldable pub RefusalInRange : Option ℕ → Type 0
RefusalInRange None = Unit
RefusalInRange (Some n) = InRange (refuses n)

-- one of fewer digits is
pub small_in_range : (o : Option ℕ) → Small o → RefusalInRange o
unfolding RefusalInRange InRange Small
small_in_range None small = tt
small_in_range (Some n) small = (omega (arith, small.0), omega (arith, small.1))

-- each of these checks refuses with a number in range
unfoldable pub EachInRange : List Check → Type 0
EachInRange [] = Unit
EachInRange (refuse n strikes ∷ checks) = InRange (refuses n) × EachInRange checks

pub first_in_range : (checks : List Check) → EachInRange checks → RefusalInRange (first_refusal checks)
unfolding RefusalInRange EachInRange first_refusal
first_in_range [] each = tt
first_in_range (refuse n true ∷ checks) each = each.0
first_in_range (refuse n false ∷ checks) each = first_in_range checks each.1

pub line_refusal_in_range : (L : ℕ) (t : Tree) → RefusalInRange (line_refusal L t)
unfolding EachInRange InRange line_refusal
line_refusal_in_range L t = first_in_range _ ((omega arith, omega arith), ((omega arith, omega arith), tt))

pub list_refusal_in_range : (n room : ℕ) → RefusalInRange (list_refusal n room)
unfolding EachInRange InRange list_refusal
list_refusal_in_range n room = first_in_range _ ((omega arith, omega arith), ((omega arith, omega arith), tt))

pub packing_refusal_in_range : (k L p : ℕ) → RefusalInRange (packing_refusal k L p)
unfolding EachInRange InRange packing_refusal
packing_refusal_in_range k L p =
    first_in_range _ ((omega arith, omega arith), ((omega arith, omega arith), ((omega arith, omega arith), ((omega arith, omega arith), tt))))

pub reason_refusal_in_range : (p : ℕ) (a : Place) (i : ℕ) (t : Tree) → RefusalInRange (reason_refusal p a i t)
unfolding EachInRange InRange reason_refusal
reason_refusal_in_range p a i t =
    first_in_range _ ((omega arith, omega arith), ((omega arith, omega arith), ((omega arith, omega arith), ((omega arith, omega arith), tt))))

pub weave_refusal_in_range : (a b : Tree) → RefusalInRange (weave_refusal a b)
unfolding EachInRange InRange weave_refusal
weave_refusal_in_range a b = first_in_range _ ((omega arith, omega arith), ((omega arith, omega arith), tt))

-- Reading an image

-- the outcome of a call that only asks is no refusal, or one in range
abbrev pub OutcomeInRange : {A : Type 0} → Outcome A → Type 0
OutcomeInRange o = RefusalInRange (refusal_of o)

checked_in_range : {A : Type 0} (o : Option ℕ) (a : A) → RefusalInRange o → OutcomeInRange (gives_unless o a)
unfolding gives_unless refusal_of
checked_in_range None a range = range
checked_in_range (Some n) a range = range

then_in_range : {A B : Type 0} (o : Outcome A) (go : A → Outcome B) → OutcomeInRange o → ((a : A) → OutcomeInRange (go a)) → OutcomeInRange (and_then o go)
unfolding and_then refusal_of
then_in_range (gives a) go range behind = behind a
then_in_range (refuses n) go range behind = range

given_in_range : {A : Type 0} (a : A) → OutcomeInRange (gives a)
unfolding RefusalInRange refusal_of
given_in_range a = tt

field_in_range : (width least most : ℕ) (bits : List ℕ) (at : ℕ) → OutcomeInRange (read_field width least most bits at)
unfolding read_field EachInRange InRange
field_in_range width least most bits at = checked_in_range _ _ (first_in_range _ ((omega arith, omega arith), ((omega arith, omega arith), tt)))

row_in_range : (bits : List ℕ) (at : ℕ) → OutcomeInRange (read_row bits at)
unfolding read_row
row_in_range bits at =
    then_in_range _ _ (field_in_range 12 1 4095 bits at) (λ w. then_in_range _ _ (field_in_range 12 0 4095 bits w.next) (λ e. given_in_range _))

path_in_range : (n : ℕ) (bits : List ℕ) (at : ℕ) → OutcomeInRange (read_path n bits at)
unfolding read_path
path_in_range zero bits at = given_in_range _
path_in_range (suc n) bits at = then_in_range _ _ (path_in_range n bits at) (λ above. then_in_range _ _ (row_in_range bits above.next) (λ r. given_in_range _))

line_in_range : (bits : List ℕ) (at : ℕ) → OutcomeInRange (read_line bits at)
unfolding read_line
line_in_range bits at =
    then_in_range _ _ (field_in_range 6 0 63 bits at) (λ number.
    then_in_range _ _ (field_in_range 4 1 11 bits number.next) (λ count.
    then_in_range _ _ (path_in_range count.value bits count.next) (λ rows. given_in_range _)))

lines_in_range : (n : ℕ) (bits : List ℕ) (at : ℕ) → OutcomeInRange (read_lines n bits at)
unfolding read_lines
lines_in_range zero bits at = given_in_range _
lines_in_range (suc n) bits at =
    then_in_range _ _ (lines_in_range n bits at) (λ earlier. then_in_range _ _ (line_in_range bits earlier.next) (λ line. given_in_range _))

pub image_in_range : (bytes : List ℕ) → OutcomeInRange (read_outcome bytes)
unfolding read_outcome read_plan behind_refusal EachInRange InRange
image_in_range bytes =
    then_in_range _ _
    (then_in_range _ _ (field_in_range 7 0 64 (bits_of bytes) 0) (λ count. lines_in_range count.value (bits_of bytes) count.next))
    (λ plan. checked_in_range _ _ (first_in_range _ ((omega arith, omega arith), ((omega arith, omega arith), ((omega arith, omega arith), tt)))))
