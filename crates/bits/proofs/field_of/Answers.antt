-- `bits::field_of` meets its contract: a shift down and a mask take a field out, at every width and place.
-- Assumes nothing.
use mathlib.Core.Path.{sym, subst}
use Prim.Native.Nat.{ℕ, ◌≤◌}
use lib.Pow.{pow_pos}
use Rattle.bits.proofs.FieldLaws.{one_shifted, shift_and_made_mask}
use Rattle.bits.proofs.field_of.Goals as goal

pub overflow_sub-result : goal.overflow_sub-result
overflow_sub-result c = subst (λ (x : ℕ). 1 ≤ x) (sym (one_shifted 64 c.args.width c.requires.0)) (pow_pos c.args.width)

pub returns : goal.returns
returns c = shift_and_made_mask 64 c.args.width c.args.place c.args.word c.requires.0
