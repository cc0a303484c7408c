-- An answer of a call tells its outcome, since no refusal is 0: the calls refuse with 1 to 16 alone, and every value is below 2^32.
-- Assumes nothing.
use Rattle.std.specs.Prelude.{if◌then◌else◌, Option, None, Some}
use Prim.Native.Nat.{ℕ, zero, suc, ◌-◌, ◌^◌, ◌%◌, ◌<◌, ◌≤◌}
use native.Mathlib.Omega.{arith}
use mathlib.Core.Path.{◌≡◌, refl, ◌∙◌, ap}
use mathlib.Core.Bool.{Bool, true, false}
use mathlib.Core.List.{List}
use lib.IntN.{ℤ, negsuc}
use lib.ListN.{length}
use mir.Syntax.{Width, w8, w16, w32, w64, w128}
use mir.Val.{bits, SFits, to_z}
use mir.ValLaws.{to_z-of_z}
use Rattle.tree.specs.Tree.{Tree, Place}
use Rattle.tree.specs.Shape.{Legal}
use Rattle.tree.specs.Opening.{opened, start_given}
use Rattle.tree.specs.Asking.{owner_or_rest}
use Rattle.tree.specs.Reason.{reason}
use Rattle.tree.specs.Refusals.{reason_refusal}
use Rattle.tree.specs.Calls.{Call, open_line, close_line, refusal, reply, answer_unless, answer, Outcome, gives, refuses, gives_unless, refusal_of, show_outcome, turns_outcome, reason_outcome}
use Rattle.tree.specs.Trial.{trial_outcome}
use Rattle.tree.specs.Image.{write_outcome}
use Rattle.tree.specs.ImageReading.{read_outcome}
use Rattle.tree.specs.Weaving.{weave_outcome}
use Rattle.tree.specs.Record.{legal}
use Rattle.tree.proofs.Standing.{start_below_period}
use Rattle.tree.proofs.Ownership.{turns_at_most}
use Rattle.tree.proofs.Checks.{open_may}
use Rattle.tree.proofs.Opening.{opened_new}
use Rattle.bridge.specs.Rows.{tree_of_rows}
use Rattle.bridge.proofs.TreeOfRecord.{legal_on_record}
use Rattle.images.proofs.ImageLength.{image_length_at_most}
use Rattle.plan.specs.declared.walker.WalkerPlace.{WalkerPlace}
use Rattle.plan.specs.Walker.{at_end, walk_outcome}
use Rattle.orders.specs.Order.{order_of}
use Rattle.orders.specs.Packing.{packing}
use Rattle.orders.specs.Reading.{reading}
use Rattle.lists.specs.Lists.{list_refusal}
use Rattle.lists.proofs.AnswersFit.{refusal_small, reading_small}
use Rattle.gaplinte.specs.Answer.{answer_number, zero_value, outcome_told, InRange, Tells, narrowed}
use Rattle.gaplinte.specs.Served.{change_outcome, ChangeServed, owner_value, owner_outcome, tree_outcome, ShowServed, TrialServed, reason_number, SheetServed, walk_value, place_of, WalkServed, list_outcome, ListServed}
use Rattle.gaplinte.specs.OrdersServed.{bytes_in, PackServed, ReadServed}
use Rattle.gaplinte.specs.ImagesServed.{ImageWriteServed, ImageReadServed}
use Rattle.gaplinte.specs.WeavingServed.{WeaveServed}
use Rattle.gaplinte.proofs.ValuesBelow.{owner_at_most, reason_at_most}
use Rattle.gaplinte.proofs.RefusalsInRange.{RefusalInRange, small_in_range, EachInRange, first_in_range, line_refusal_in_range, list_refusal_in_range, packing_refusal_in_range, reason_refusal_in_range, weave_refusal_in_range, image_in_range}

-- An outcome in range is told

told_back : (o : Outcome ℕ) → InRange o → outcome_told (answer_number o) ≡ o
unfolding InRange answer_number outcome_told
told_back (gives n) range = refl
told_back (refuses zero) range = absurd (omega (arith, range.0))
told_back (refuses (suc n)) range = refl

tells : (o : Outcome ℕ) (r : ℤ) → InRange o → r ≡ answer_number o → Tells o r
tells o r range is = record { told_is = ap outcome_told is ∙ told_back o range; in_range = range }

-- a refusal that a caller keeps in a signed number of 8, 16 or 32 bits is the same negative number there
pub refusal_survives : (w : Width) (n : ℕ) → bits w ≤ 64 → InRange (refuses n) → narrowed w (answer_number (refuses n)) ≡ answer_number (refuses n)
unfolding InRange answer_number narrowed
refusal_survives w zero narrow range = absurd (omega (arith, range.0))
refusal_survives w (suc n) narrow range = ap (to_z w) (lowest_bits w narrow) ∙ to_z-of_z w (negsuc n) (fits w narrow)
  where
    lowest_bits : (v : Width) → bits v ≤ 64 → (2 ^ 64 - suc n) % 2 ^ bits v ≡ 2 ^ bits v - suc n
    lowest_bits w8 h = omega (arith, range.1)
    lowest_bits w16 h = omega (arith, range.1)
    lowest_bits w32 h = omega (arith, range.1)
    lowest_bits w64 h = omega (arith, range.1)
    lowest_bits w128 h = absurd (omega arith)

    fits : (v : Width) → bits v ≤ 64 → SFits v (negsuc n)
    fits w8 h = record { sfits = omega (arith, range.1) }
    fits w16 h = record { sfits = omega (arith, range.1) }
    fits w32 h = record { sfits = omega (arith, range.1) }
    fits w64 h = record { sfits = omega (arith, range.1) }
    fits w128 h = absurd (omega arith)

-- Their outcomes are in range

value_in_range : (o : Option ℕ) (n : ℕ) → RefusalInRange o → n < 2 ^ 32 → InRange (gives_unless o n)
unfolding RefusalInRange InRange gives_unless
value_in_range None n range below = below
value_in_range (Some k) n range below = range

zero_in_range : {A : Type 0} (o : Option ℕ) (a : A) → RefusalInRange o → InRange (zero_value (gives_unless o a))
unfolding RefusalInRange InRange zero_value gives_unless
zero_in_range None a range = omega arith
zero_in_range (Some k) a range = range

reason_in_range : (p : ℕ) (a : Place) (i : ℕ) (t : Tree) → InRange (reason_number (reason_outcome p a i t))
unfolding RefusalInRange InRange reason_outcome gives_unless reason_number
reason_in_range p a i t = by_refusal (reason_refusal p a i t) (reason_refusal_in_range p a i t)
  where
    by_refusal : (o : Option ℕ) → RefusalInRange o → InRange (reason_number (gives_unless o (reason p a i t)))
    by_refusal None range = omega (arith, reason_at_most p a i t)
    by_refusal (Some n) range = range

-- a start is below 4,095, the largest period
reply_in_range : (c : Call) (t : Tree) → Legal t → refusal c t ≡ None → InRange (change_outcome (reply c t))
unfolding InRange refusal reply change_outcome
reply_in_range (open_line L p) t is_legal allowed =
    let may = open_may L p t is_legal allowed in
    let below = start_below_period L (opened L p t) p (start_given p t) (opened_new L p t may) in
    omega arith
reply_in_range (close_line L) t is_legal allowed = omega arith

change_in_range : (c : Call) (t : Tree) → Legal t → InRange (change_outcome (answer c t))
unfolding RefusalInRange InRange answer answer_unless change_outcome
change_in_range c t is_legal = by_refusal (refusal c t) refl (small_in_range _ (refusal_small c t))
  where
    by_refusal : (o : Option ℕ) → refusal c t ≡ o → RefusalInRange o → InRange (change_outcome (answer_unless o (reply c t)))
    by_refusal None e range = reply_in_range c t is_legal e
    by_refusal (Some n) e range = range

owner_in_range : (round : ℕ) (t : Tree) → Legal t → InRange (gives (owner_value (owner_or_rest round t)))
unfolding InRange
owner_in_range round t is_legal = omega (arith, owner_at_most round t is_legal)

walk_in_range : (place : WalkerPlace) (t : Tree) → Legal t → InRange (walk_value (walk_outcome place t))
unfolding InRange walk_outcome walk_value
walk_in_range place t is_legal = by_end (at_end place)
  where
    by_end : (b : Bool) → InRange (walk_value (if b then refuses 9 else gives (owner_or_rest place.next t)))
    by_end true = (omega arith, omega arith)
    by_end false = owner_in_range place.next t is_legal

tree_in_range : (rows : List ℕ) → InRange (tree_outcome rows)
unfolding InRange tree_outcome
tree_in_range rows = by_test (legal rows)
  where
    by_test : (b : Bool) → (if b then 1 else 0) < 2 ^ 32
    by_test true = omega arith
    by_test false = omega arith

-- what is read of an image has the value 0
read_in_range : {A : Type 0} (o : Outcome A) → RefusalInRange (refusal_of o) → InRange (zero_value o)
unfolding RefusalInRange InRange zero_value refusal_of
read_in_range (gives a) range = omega arith
read_in_range (refuses n) range = range

-- The calls

pub change_tells : (c : Call) (before after : List ℕ) (r : ℤ) → ChangeServed c before after r → Tells (change_outcome (answer c (tree_of_rows before))) r
change_tells c before after r served = tells _ r (change_in_range c _ (legal_on_record before)) served.answer_is

pub owner_tells : (round : ℕ) (rows : List ℕ) (r : ℤ) → r ≡ answer_number (owner_outcome round rows) → Tells (owner_outcome round rows) r
unfolding owner_outcome
owner_tells round rows r is = tells _ r (owner_in_range round _ (legal_on_record rows)) is

pub tree_tells : (rows : List ℕ) (r : ℤ) → r ≡ answer_number (tree_outcome rows) → Tells (tree_outcome rows) r
tree_tells rows r is = tells _ r (tree_in_range rows) is

-- the rounds of turns are a number of 32 bits
pub turns_tells : (L a N : ℕ) (t : Tree) (r : ℤ) → N < 2 ^ 32 → r ≡ answer_number (turns_outcome L a N t) → Tells (turns_outcome L a N t) r
unfolding turns_outcome
turns_tells L a N t r below is = tells _ r (value_in_range _ _ (line_refusal_in_range L t) (omega (arith, turns_at_most L a N t))) is

pub show_tells : (rows : List ℕ) (L : ℕ) (before after : List ℕ) (r : ℤ) → ShowServed rows L before after r → Tells (zero_value (show_outcome L (tree_of_rows rows))) r
unfolding show_outcome
show_tells rows L before after r served = tells _ r (zero_in_range _ _ (line_refusal_in_range L _)) served.answer_is

pub trial_tells : (rows : List ℕ) (L p : ℕ) (before after : List ℕ) (r : ℤ) → TrialServed rows L p before after r → Tells (zero_value (trial_outcome L p (tree_of_rows rows))) r
unfolding trial_outcome refusal
trial_tells rows L p before after r served = tells _ r (zero_in_range _ _ (small_in_range _ (refusal_small (open_line L p) _))) served.answer_is

pub reason_tells : (p : ℕ) (a : Place) (i : ℕ) (t : Tree) (r : ℤ) → r ≡ answer_number (reason_number (reason_outcome p a i t)) → Tells (reason_number (reason_outcome p a i t)) r
reason_tells p a i t r is = tells _ r (reason_in_range p a i t) is

pub sheet_tells : (rows : List ℕ) (a N : ℕ) (after : List ℕ) (r : ℤ) → SheetServed rows a N after r → Tells (gives 0) r
unfolding InRange
sheet_tells rows a N after r served = tells (gives 0) r (omega arith) served.answer_is

pub walk_tells : (rows before after : List ℕ) (r : ℤ) → WalkServed rows before after r → Tells (walk_value (walk_outcome (place_of before) (tree_of_rows rows))) r
walk_tells rows before after r served = tells _ r (walk_in_range _ _ (legal_on_record rows)) served.answer_is

pub list_tells : (before orders lent after written : List ℕ) (r : ℤ) → ListServed before orders lent after written r →
    Tells (list_outcome (list_refusal (length orders) (length lent))) r
unfolding list_outcome
list_tells before orders lent after written r served =
    tells _ r (value_in_range _ 0 (list_refusal_in_range (length orders) (length lent)) (omega arith)) served.answer_is

pub pack_tells : (k L p : ℕ) (before after : List ℕ) (r : ℤ) → PackServed k L p before after r → Tells (zero_value (packing k L p)) r
unfolding packing
pack_tells k L p before after r served = tells _ r (zero_in_range _ _ (packing_refusal_in_range k L p)) served.answer_is

pub read_tells : (order before after : List ℕ) (r : ℤ) → ReadServed order before after r → Tells (zero_value (reading (order_of (bytes_in order)))) r
unfolding reading
read_tells order before after r served = tells _ r (zero_in_range _ _ (small_in_range _ (reading_small _))) served.answer_is

pub write_image_tells : (rows before after : List ℕ) (r : ℤ) → ImageWriteServed rows before after r → Tells (write_outcome (length before) (tree_of_rows rows)) r
unfolding write_outcome EachInRange InRange
write_image_tells rows before after r served =
    tells _ r (value_in_range _ _ (first_in_range _ ((omega arith, omega arith), tt)) (omega (arith, image_length_at_most (tree_of_rows rows) (legal_on_record rows)))) served.answer_is

pub read_image_tells : (bytes before after : List ℕ) (r : ℤ) → ImageReadServed bytes before after r → Tells (zero_value (read_outcome bytes)) r
read_image_tells bytes before after r served = tells _ r (read_in_range (read_outcome bytes) (image_in_range bytes)) served.answer_is

pub weave_tells : (a b before after : List ℕ) (r : ℤ) → WeaveServed a b before after r → Tells (zero_value (weave_outcome (tree_of_rows a) (tree_of_rows b))) r
unfolding weave_outcome
weave_tells a b before after r served = tells _ r (zero_in_range _ _ (weave_refusal_in_range _ _)) served.answer_is
