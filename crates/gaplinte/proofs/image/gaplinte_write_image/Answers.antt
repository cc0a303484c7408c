-- `gaplinte::image::gaplinte_write_image` meets its contract, by that of `plan::image::write_image`: the image's length is a small number.
-- Assumes nothing.
use native.Mathlib.Omega.{arith}
use borrow.Author.Rules.{rules}
use Rattle.bridge.proofs.TreeOfRecord.{legal_on_record}
use Rattle.gaplinte.proofs.Serving.{mapped, if_mapped, if_given, valued}
use Rattle.gaplinte.proofs.ValuesBelow.{image_given}
use Rattle.gaplinte.proofs.image.gaplinte_write_image.Goals as goal

pub number-requires : goal.number-requires
number-requires c =
    let same = mapped (λ n. n) c.write_image-written.result c.map.result c.map.ensures.cases λ n m p. search rules in
    if_mapped _ _ _ _ same (if_given _ _ _ c.write_image-written.ensures.answer_is λ n given. omega (arith, image_given _ _ n (legal_on_record c.args.rows.now) given))

pub returns : goal.returns
returns c =
    record {
      answer_is = valued (λ n. n) _ _ c.map.ensures.cases (λ n m p. search rules) c.write_image-written.ensures.answer_is c.number.ensures;
      buffer_is = c.write_image-written.ensures.buffer_is;
    }
