-- One part read behind another, and the checks of a field in their sequence.
-- Assumes nothing.
use Prim.Native.Nat.{ℕ, ◌+◌, ◌<◌, ◌≤◌}
use mathlib.Core.Path.{◌≡◌}
use mathlib.Core.Bool.{or-true}
use mathlib.Core.List.{List}
use lib.ListN.{length}
use borrow.Author.Tests.{lt-ltb, le-ltb}
use Rattle.tree.specs.Refusals.{first_refusal}
use Rattle.tree.specs.Calls.{Outcome, gives, refuses, gives_unless}
use Rattle.tree.specs.Bits.{number_at}
use Rattle.tree.specs.ImageReading.{and_then, read_field}

module _ {A B : Type 0} {o : Outcome A} (go : A → Outcome B) where
  pub then_goes : {a : A} → o ≡ gives a → and_then o go ≡ go a
  unfolding and_then
  then_goes h = rw h

  pub then_refused : {n : ℕ} → o ≡ refuses n → and_then o go ≡ refuses n
  unfolding and_then
  then_refused h = rw h

-- all bits of the field are there, and its number is out of range
module _ (width least most : ℕ) (bits : List ℕ) (at : ℕ) (inside : at + width ≤ length bits) where
  pub field_below_least : number_at width at bits < least → read_field width least most bits at ≡ refuses 14
  unfolding read_field first_refusal gives_unless
  field_below_least small = rw (le-ltb (length bits) (at + width) inside, lt-ltb (number_at width at bits) least small)

  pub field_above_most : most < number_at width at bits → read_field width least most bits at ≡ refuses 14
  unfolding read_field first_refusal gives_unless
  field_above_most large = rw (le-ltb (length bits) (at + width) inside, lt-ltb most (number_at width at bits) large, or-true)
