-- `gaplinte::image::gaplinte_read_image` meets its contract, by that of `plan::image::read_image_rows`.
-- Assumes nothing.
use mathlib.Core.Path.{◌≡◌, refl, ◌∙◌, ap}
use Rattle.std.specs.Prelude.{Option}
use Prim.Native.Nat.{ℕ}
use borrow.Author.Rules.{rules}
use Rattle.tree.specs.Calls.{Outcome, gives, refuses, gives_unless, refusal_of}
use Rattle.gaplinte.specs.Answer.{zero_value}
use Rattle.gaplinte.proofs.Serving.{valued, done_told}
use Rattle.gaplinte.proofs.image.gaplinte_read_image.Goals as goal

-- the value is 0
zero_unless : {A : Type 0} (o : Outcome A) → gives_unless (refusal_of o) 0 ≡ zero_value o
unfolding gives_unless refusal_of zero_value
zero_unless (gives a) = refl
zero_unless (refuses n) = refl

pub returns : goal.returns
returns c =
    let read = c.read_image_rows-read.ensures in
    record {
      answer_is =
          valued _ _ _ c.map.ensures.cases (λ u n p. search rules) (done_told _ ∙ ap (λ (o : Option ℕ). gives_unless o 0) read.answer_is ∙ zero_unless _) c.number.ensures;
      rows_are = read.rows_are;
    }
