-- The values that calls give, with their bounds: a line, or 64 and the rest; a number of turns; a line, or 64; an image's length; the line of an order that was read.
-- Assumes nothing.
use Rattle.std.specs.Prelude.{if◌then◌else◌, Option, None, Some, unwrap_or}
use Prim.Native.Nat.{ℕ, zero, suc, ◌<◌, ◌≤◌}
use native.Mathlib.Omega.{arith}
use mathlib.Core.Path.{◌≡◌, refl, ◌∙◌, ap}
use mathlib.Core.Bool.{Bool, true, false}
use lib.ListN.{length}
use Rattle.tree.specs.Numbers.{divides}
use Rattle.tree.specs.Tree.{Tree, nothing, line as leaf, node, Place, at, step}
use Rattle.tree.specs.Shape.{Legal}
use Rattle.tree.specs.Asking.{owner, rest, OwnerOrRest, or_rest, owner_or_rest, turns}
use Rattle.tree.specs.Reason.{Reason, step_does_not_divide, line_stands, line_in_class, reason}
use Rattle.tree.specs.Refusals.{line_refusal, reason_refusal}
use Rattle.tree.specs.Calls.{Call, gives, refuses, gives_unless, turns_outcome, reason_outcome}
use Rattle.tree.specs.Image.{image, write_outcome}
use Rattle.tree.proofs.Ownership.{turns_at_most}
use Rattle.tree.proofs.Searching.{smallest_some}
use Rattle.tree.proofs.Numbering.{owner_below_64}
use Rattle.tree.proofs.Resting.{rest_at_most}
use Rattle.images.proofs.ImageLength.{image_length_at_most}
use Rattle.plan.specs.declared.walker.WalkerPlace.{WalkerPlace}
use Rattle.plan.specs.Walker.{at_end, walk_outcome}
use Rattle.orders.specs.Order.{kind, line, period}
use Rattle.orders.specs.Reading.{reading_refusal, call_of, line_of, reading}
use Rattle.bits.proofs.FieldLaws.{field_below}
use Rattle.gaplinte.specs.Served.{owner_value, reason_value}

-- what a call gives is what it would give if it were not refused
given_value : {A : Type 0} (refusal : Option ℕ) (a b : A) → gives b ≡ gives_unless refusal a → b ≡ a
unfolding gives_unless
given_value None a b given = cc
given_value (Some n) a b given = let z : ◌≡◌ {A = ℕ} 0 1 = cc in absurd (omega arith)

-- the value of owner and of the walker is a line, or 64 and a rest of at most 4,094
pub owner_at_most : (round : ℕ) (t : Tree) → Legal t → owner_value (owner_or_rest round t) ≤ 4158
unfolding owner_or_rest or_rest owner_value
owner_at_most round t is_legal = by_owner (owner round t) refl
  where
    by_owner : (o : Option ℕ) → owner round t ≡ o → owner_value (or_rest o (rest round t)) ≤ 4158
    by_owner None idle = omega (arith, rest_at_most t is_legal round)
    by_owner (Some L) owned = omega (arith, owner_below_64 round t L is_legal owned)

pub owner_given : (round : ℕ) (t : Tree) (o : OwnerOrRest) → Legal t → o ≡ owner_or_rest round t → owner_value o ≤ 4158
owner_given round t o is_legal given = rw given (owner_at_most round t is_legal)

pub walk_given : (place : WalkerPlace) (t : Tree) (o : OwnerOrRest) → Legal t → gives o ≡ walk_outcome place t → owner_value o ≤ 4158
unfolding walk_outcome
walk_given place t o is_legal = by_end (at_end place)
  where
    by_end : (ended : Bool) → gives o ≡ (if ended then refuses 9 else gives (owner_or_rest place.next t)) → owner_value o ≤ 4158
    by_end true walked = let z : ◌≡◌ {A = ℕ} 0 1 = cc in absurd (omega arith)
    by_end false walked = owner_given place.next t o is_legal cc

pub turns_given : (L a N : ℕ) (t : Tree) (n : ℕ) → gives n ≡ turns_outcome L a N t → n ≤ N
unfolding turns_outcome
turns_given L a N t n given = rw (given_value (line_refusal L t) (turns L a N t) n given) (turns_at_most L a N t)

-- a line that stands in a class is below 64
line_below_64 : (p m : ℕ) (here : Tree) (i : ℕ) → unwrap_or (line_in_class p m here i) 0 < 64
unfolding line_in_class
line_below_64 p m nothing i = omega arith
line_below_64 p m (leaf n) i = omega arith
line_below_64 p m (node w f) i = by_line _ refl
  where
    by_line : (o : Option ℕ) → line_in_class p m (node w f) i ≡ o → unwrap_or o 0 < 64
    by_line None none = omega arith
    by_line (Some L) found = (smallest_some 64 _ L found).in_range

-- the value of reason is such a line, or 64
pub reason_at_most : (p : ℕ) (a : Place) (i : ℕ) (t : Tree) → reason_value (reason p a i t) ≤ 64
unfolding reason reason_value
reason_at_most p a i t = by_test (divides (step a t) p)
  where
    by_test : (b : Bool) → reason_value (if b then line_stands (unwrap_or (line_in_class p (step a t) (at a t) i) 0) else step_does_not_divide) ≤ 64
    by_test true = omega (arith, line_below_64 p (step a t) (at a t) i)
    by_test false = omega arith

pub reason_given : (p : ℕ) (a : Place) (i : ℕ) (t : Tree) (r : Reason) → gives r ≡ reason_outcome p a i t → reason_value r ≤ 64
unfolding reason_outcome
reason_given p a i t r given = rw (given_value (reason_refusal p a i t) (reason p a i t) r given) (reason_at_most p a i t)

-- an image has at most 2,193 bytes
pub image_given : (room : ℕ) (t : Tree) (n : ℕ) → Legal t → gives n ≡ write_outcome room t → n ≤ 2193
unfolding write_outcome
image_given room t n is_legal given = rw (given_value _ (length (image t)) n given) (image_length_at_most t is_legal)

-- the line of an order that is read has 6 bits
call_line : (k L p : ℕ) → line_of (call_of k L p) ≡ L
unfolding call_of line_of
call_line zero L p = refl
call_line (suc k) L p = refl

pub line_read_below_64 : (n : ℕ) (c : Call) → gives c ≡ reading n → line_of c < 64
unfolding reading line
line_read_below_64 n c given =
    let below = field_below 6 16 n in
    let number = ap line_of (given_value (reading_refusal n) (call_of (kind n) (line n) (period n)) c given) ∙ call_line (kind n) (line n) (period n) in
    omega arith
