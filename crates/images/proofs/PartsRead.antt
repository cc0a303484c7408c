-- What a part that was read says of the bits, which bits give a field, and that a field is refused where bits of it are missing.
-- Assumes nothing.
use Prim.Native.Nat.{ℕ, ◌+◌, ◌<◌, ◌≤◌}
use mathlib.Core.Path.{◌≡◌, refl}
use mathlib.Core.Bool.{◌||◌}
use mathlib.Core.List.{List}
use lib.Dec.{ltb}
use lib.ListN.{length}
use borrow.Author.Tests.{ltb-false, lt-ltb, le-ltb}
use Rattle.tree.specs.Refusals.{first_refusal}
use Rattle.tree.specs.Calls.{Outcome, gives, refuses, gives_unless}
use Rattle.tree.specs.Bits.{number_at}
use Rattle.tree.specs.ImageReading.{Part, and_then, read_field}
use Rattle.tree.proofs.Checks.{none_strikes, neither, unless_given}

-- what comes behind a part was given where both were
pub then_given : {A B : Type 0} (o : Outcome A) (go : A → Outcome B) (b : B) → and_then o go ≡ gives b → (a : A) × (o ≡ gives a) × (go a ≡ gives b)
unfolding and_then
then_given (gives a) go b h = (a, refl, h)
then_given (refuses n) go b h = absurd (cc)

pub record FieldRead (width least most : ℕ) (bits : List ℕ) (at : ℕ) (p : Part ℕ) : Type 0 where
  pub value_is : p.value ≡ number_at width at bits
  pub next_is : p.next ≡ at + width
  pub inside : at + width ≤ length bits
  pub at_least : least ≤ p.value
  pub at_most : p.value ≤ most

pub field_given : (width least most : ℕ) (bits : List ℕ) (at : ℕ) (p : Part ℕ) → read_field width least most bits at ≡ gives p → FieldRead width least most bits at p
unfolding read_field first_refusal
field_given width least most bits at p h =
    let n = number_at width at bits in
    let given = unless_given _ _ p h in
    let inside = none_strikes (ltb (length bits) (at + width)) 13 _ given.0 in
    let in_range = neither (ltb n least) (ltb most n) (none_strikes (ltb n least || ltb most n) 14 _ inside.1).0 in
    let value : p.value ≡ n = cc in
    record {
      value_is = value;
      next_is = cc;
      inside = ltb-false (length bits) (at + width) inside.0;
      at_least = rw value (ltb-false n least in_range.0);
      at_most = rw value (ltb-false most n in_range.1);
    }

pub field_gives : (width least most : ℕ) (bits : List ℕ) (at : ℕ) → at + width ≤ length bits → least ≤ number_at width at bits → number_at width at bits ≤ most →
    read_field width least most bits at ≡ gives (record { value = number_at width at bits; next = at + width })
unfolding read_field first_refusal gives_unless
field_gives width least most bits at inside at_least at_most =
    let n = number_at width at bits in
    rw (le-ltb (length bits) (at + width) inside, le-ltb n least at_least, le-ltb most n at_most)

pub field_refused_13 : (width least most : ℕ) (bits : List ℕ) (at : ℕ) → length bits < at + width → read_field width least most bits at ≡ refuses 13
unfolding read_field first_refusal gives_unless
field_refused_13 width least most bits at missing = rw (lt-ltb (length bits) (at + width) missing)
