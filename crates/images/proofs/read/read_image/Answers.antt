-- `images::read::read_image` meets its contract: one law of ImageInOrder for each return.
-- Assumes nothing.
use native.Mathlib.Omega.{arith}
use mathlib.Core.Path.{refl, sym}
use borrow.Author.Tests.{not-true, not-false}
use Rattle.std.proofs.lemmas.Result.{err_from_is_err_and}
use Rattle.tree.specs.Answered.{outcome_of, number_of}
use Rattle.images.specs.Parts.{LinesIn}
use Rattle.images.proofs.PartsEnd.{plan_ends}
use Rattle.images.proofs.ImageInOrder.{plan_refused, surplus_bytes, fill_bit_set, lines_fall, record_illegal, record_given}
use Rattle.images.proofs.read.read_image.Goals as goal

pub returns-in_err-lines : goal.returns-in_err-lines
unfolding LinesIn outcome_of
returns-in_err-lines c =
    let told = err_from_is_err_and c.from_residual.result c.from_residual.ensures.1 in
    rw (told.1, told.2) (sym (plan_refused _ c.in_err-lines.ensures))

pub returns-then-length-bytes : goal.returns-then-length-bytes
unfolding LinesIn outcome_of number_of
returns-then-length-bytes c = sym (surplus_bytes _ c.in_ok-lines.ensures c.div_ceil-length.ensures c.if-length-bytes.true)

pub overflow_mul-length : goal.overflow_mul-length
unfolding LinesIn
overflow_mul-length c = omega (arith, c.div_ceil-length.ensures, plan_ends _ _ c.in_ok-lines.ensures.given)

pub returns-then-number_at-ne0 : goal.returns-then-number_at-ne0
unfolding LinesIn outcome_of number_of
returns-then-number_at-ne0 c =
    sym (fill_bit_set _ c.in_ok-lines.ensures c.div_ceil-length.ensures c.if-length-bytes.false c.number_at.ensures c.if-number_at-ne0.true)

pub returns-then-not-lines : goal.returns-then-not-lines
unfolding LinesIn outcome_of number_of
returns-then-not-lines c =
    sym
    (lines_fall _ c.in_ok-lines.ensures c.div_ceil-length.ensures c.if-length-bytes.false c.number_at.ensures c.if-number_at-ne0.false
    (not-true _ c.if-not-lines.true))

pub returns-then-not-legal : goal.returns-then-not-legal
unfolding LinesIn outcome_of number_of
returns-then-not-legal c =
    sym
    (record_illegal _ c.in_ok-lines.ensures c.div_ceil-length.ensures c.if-length-bytes.false c.number_at.ensures c.if-number_at-ne0.false refl
    (sym c.if-not-legal.ensures))

pub returns : goal.returns
unfolding LinesIn outcome_of
returns c =
    sym
    (record_given _ c.in_ok-lines.ensures c.div_ceil-length.ensures c.if-length-bytes.false c.number_at.ensures c.if-number_at-ne0.false refl
    (not-false _ c.if-not-lines.false) (sym c.if-not-legal.ensures))
