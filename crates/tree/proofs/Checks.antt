-- The checks of each call (specs/Refusals.antt): what a call that passes them may count on, and what a refusal says.
-- Assumes nothing.
use Rattle.std.specs.Prelude.{if◌then◌else◌, Option, None, Some}
use Prim.Native.Nat.{ℕ, ◌<◌, ◌≤◌}
use native.Mathlib.Omega.{arith}
use mathlib.Core.Path.{◌≡◌, refl}
use mathlib.Core.Bool.{Bool, true, false, not, ◌||◌, true≢false}
use mathlib.Core.List.{List, [], ◌∷◌, ◌++◌}
use Rattle.tree.proofs.Options.{some-none}
use lib.Dec.{eqb, ltb}
use borrow.Author.Tests.{eqb-false, ltb-false, lt-ltb, le-ltb, ne_eqb}
use Rattle.tree.specs.Search.{or_else}
use Rattle.tree.specs.Tree.{Tree, is_open, Place}
use Rattle.tree.specs.Shape.{Legal}
use Rattle.tree.specs.Calls.{gives, refuses, gives_unless}
use Rattle.tree.specs.Refusals.{Check, refuse, first_refusal, line_above_63, period_out_of_range, no_room, earlier_checks, open_refusal, line_refusal, reason_refusal}
use Rattle.tree.proofs.Opening.{MayOpen}

-- a check that comes last decides where none before it refuses
first_refusal_last : (checks : List Check) (n : ℕ) (strikes : Bool) →
    first_refusal (checks ++ (refuse n strikes ∷ [])) ≡ or_else (first_refusal checks) (if strikes then Some n else None)
unfolding first_refusal or_else
first_refusal_last [] n strikes = refl
first_refusal_last (refuse m true ∷ checks) n strikes = refl
first_refusal_last (refuse m false ∷ checks) n strikes = first_refusal_last checks n strikes

-- the earlier checks of an open, on a tree
abbrev pub earlier_refusal : ℕ → ℕ → Tree → Option ℕ
earlier_refusal L p t = first_refusal (earlier_checks L p (is_open L t))

pub refused_earlier : (L p : ℕ) (t : Tree) (n : ℕ) → earlier_refusal L p t ≡ Some n → open_refusal L p t ≡ Some n
unfolding open_refusal or_else
refused_earlier L p t n h = rw (first_refusal_last (earlier_checks L p (is_open L t)) 5 (no_room p t), h)

pub refused_by_5 : (L p : ℕ) (t : Tree) → earlier_refusal L p t ≡ None → open_refusal L p t ≡ (if no_room p t then Some 5 else None)
unfolding open_refusal or_else
refused_by_5 L p t h = rw (first_refusal_last (earlier_checks L p (is_open L t)) 5 (no_room p t), h)

-- a check that has not refused did not strike
pub none_strikes : (b : Bool) (n : ℕ) (o : Option ℕ) → (if b then Some n else o) ≡ None → (b ≡ false) × (o ≡ None)
none_strikes true n o h = absurd (some-none n h)
none_strikes false n o h = (refl, h)

pub neither : (a b : Bool) → (a || b) ≡ false → (a ≡ false) × (b ≡ false)
neither false b h = (refl, h)
neither true b h = absurd (true≢false h)

-- what is given was not refused
pub unless_given : {A : Type 0} (refusal : Option ℕ) (a b : A) → gives_unless refusal a ≡ gives b → (refusal ≡ None) × (a ≡ b)
unfolding gives_unless
unless_given None a b h = (refl, cc)
unless_given (Some n) a b h = absurd (cc)

-- what is refused was refused with that number
pub refused_by : {A : Type 0} (refusal : Option ℕ) (n : ℕ) (a : A) → gives_unless refusal a ≡ refuses n → refusal ≡ Some n
unfolding gives_unless
refused_by None n a h = absurd (cc)
refused_by (Some k) n a h = cc

-- a period that is not out of range
pub range_positive : (p : ℕ) → period_out_of_range p ≡ false → 0 < p
unfolding period_out_of_range
range_positive p inside = let not_zero = eqb-false p 0 (neither (eqb p 0) (ltb 4095 p) inside).0 in omega arith

pub range_at_most : (p : ℕ) → period_out_of_range p ≡ false → p ≤ 4095
unfolding period_out_of_range
range_at_most p inside = ltb-false 4095 p (neither (eqb p 0) (ltb 4095 p) inside).1

pub range_inside : (p : ℕ) → 0 < p → p ≤ 4095 → period_out_of_range p ≡ false
unfolding period_out_of_range
range_inside p positive most = rw (ne_eqb p 0 (λ zero. omega arith), le-ltb 4095 p most) refl

pub open_may : (L p : ℕ) (t : Tree) → Legal t → open_refusal L p t ≡ None → MayOpen L p t
unfolding open_refusal first_refusal earlier_checks line_above_63
open_may L p t legal h =
    let one = none_strikes (ltb 63 L) 1 _ h in
    let two = none_strikes (period_out_of_range p) 2 _ one.1 in
    let three = none_strikes (is_open L t) 3 _ two.1 in
    let five = none_strikes (no_room p t) 5 _ three.1 in
    record {
      legal = legal;
      number_in_range = ltb-false 63 L one.0;
      period_positive = range_positive p two.0;
      period_in_range = range_at_most p two.0;
      not_open = three.0;
      has_room = five.0;
    }

-- Each refusal of an open, in its sequence

pub open_refused_1 : (L p : ℕ) (t : Tree) → 63 < L → open_refusal L p t ≡ Some 1
unfolding open_refusal first_refusal earlier_checks line_above_63
open_refused_1 L p t above = rw (lt-ltb 63 L above)

pub open_refused_2 : (L p : ℕ) (t : Tree) → L ≤ 63 → period_out_of_range p ≡ true → open_refusal L p t ≡ Some 2
unfolding open_refusal first_refusal earlier_checks line_above_63
open_refused_2 L p t number out = rw (le-ltb 63 L number, out)

pub open_refused_3 : (L p : ℕ) (t : Tree) → L ≤ 63 → period_out_of_range p ≡ false → is_open L t ≡ true → open_refusal L p t ≡ Some 3
unfolding open_refusal first_refusal earlier_checks line_above_63
open_refused_3 L p t number inside there = rw (le-ltb 63 L number, inside, there)

-- the last check decides where no earlier one refuses
pub open_last_check : (L p : ℕ) (t : Tree) → L ≤ 63 → period_out_of_range p ≡ false → is_open L t ≡ false → open_refusal L p t ≡ (if no_room p t then Some 5 else None)
unfolding open_refusal first_refusal earlier_checks line_above_63
open_last_check L p t number inside absent = rw (le-ltb 63 L number, inside, absent)

pub above_out_of_range : (p : ℕ) → 0 < p → 4095 < p → period_out_of_range p ≡ true
unfolding period_out_of_range
above_out_of_range p positive above = rw (ne_eqb p 0 (λ zero. omega arith), lt-ltb 4095 p above)

-- The refusals of close, show and turns

pub line_refused_1 : (L : ℕ) (t : Tree) → 63 < L → line_refusal L t ≡ Some 1
unfolding line_refusal first_refusal line_above_63
line_refused_1 L t above = rw (lt-ltb 63 L above)

pub line_refused_4 : (L : ℕ) (t : Tree) → L ≤ 63 → is_open L t ≡ false → line_refusal L t ≡ Some 4
unfolding line_refusal first_refusal line_above_63
line_refused_4 L t number absent = rw (le-ltb 63 L number, absent)

pub close_allowed : (L : ℕ) (t : Tree) → L ≤ 63 → is_open L t ≡ true → line_refusal L t ≡ None
unfolding line_refusal first_refusal line_above_63
close_allowed L t number h = rw (le-ltb 63 L number, h)

abbrev one_or_four : Bool → ℕ
one_or_four above = if above then 1 else 4

first_of_two : (above is_there : Bool) → is_there ≡ false →
    (if above then Some 1 else (if not is_there then Some 4 else None)) ≡ Some (one_or_four above)
first_of_two true is_there h = refl
first_of_two false is_there h = rw h

pub close_refused : (L : ℕ) (t : Tree) → is_open L t ≡ false → line_refusal L t ≡ Some (if line_above_63 L then 1 else 4)
unfolding line_refusal first_refusal
close_refused L t h = first_of_two (line_above_63 L) (is_open L t) h

-- The first refusal of reason

pub reason_refused_2 : (p : ℕ) (a : Place) (i : ℕ) (t : Tree) → period_out_of_range p ≡ true → reason_refusal p a i t ≡ Some 2
unfolding reason_refusal first_refusal
reason_refused_2 p a i t out = rw out
