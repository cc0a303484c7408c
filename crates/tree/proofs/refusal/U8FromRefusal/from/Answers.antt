-- A refusal's number is its place in the enum, counted from 1.
-- Assumes nothing.
use mathlib.Core.Path.{◌≡◌, refl}
use Prim.Native.Nat.{◌+◌}
use denote.Enum.Declared.{tag_of}
use Rattle.tree.specs.declared.refusal.Refusal.{Refusal}
use Rattle.tree.specs.declared.refusal.Refusal.TheVariants as refusal
use Rattle.tree.specs.contracts.refusal.Refusal.{the_type}
use Rattle.tree.specs.Answered.{number_of}
use Rattle.tree.proofs.refusal.U8FromRefusal.from.Goals as goal

numbered : (r : Refusal) → tag_of the_type r + 1 ≡ number_of r
unfolding number_of
numbered refusal.LineAbove63 = refl
numbered refusal.PeriodOutOfRange = refl
numbered refusal.LineOpen = refl
numbered refusal.LineNotOpen = refl
numbered refusal.NoRoom = refl
numbered refusal.NoOrder = refl
numbered refusal.ListLength = refl
numbered refusal.BufferTooShort = refl
numbered refusal.WalkerAtEnd = refl
numbered refusal.NoNode = refl
numbered refusal.NoClass = refl
numbered refusal.NoLineInClass = refl
numbered refusal.ImageLength = refl
numbered refusal.ImageField = refl
numbered refusal.OpenInBoth = refl
numbered refusal.DoubledPeriodOutOfRange = refl

pub returns : goal.returns
returns c = numbered c.args.refusal
