use native.Mathlib.Omega.{arith}
use mathlib.Core.Path.{refl, sym, ◌∙◌}
use Rattle.paths.proofs.AllBelow.{so_far_none, so_far_more, tested_fault, tested_all}
use Rattle.paths.proofs.LegalLines.{legal_by_lines}
use Rattle.paths.proofs.PassedLines.{none_passed}
use Rattle.paths.proofs.legal.Goals as goal

pub loop-number-init : goal.loop-number-init
loop-number-init c = (so_far_none _ _, none_passed _ refl c.empty.ensures.head c.empty.ensures.link)

pub line_legal-requires : goal.line_legal-requires
line_legal-requires c = c.loop-number.invariant.1

pub returns-then-not-line_legal : goal.returns-then-not-line_legal
returns-then-not-line_legal c = sym (legal_by_lines _ ∙ tested_fault c.loop-number.invariant.0 (omega arith) (sym c.line_legal.ensures.answer ∙ c.if-not-line_legal.true))

pub loop-number-preserved : goal.loop-number-preserved
loop-number-preserved c = (so_far_more c.loop-number.invariant.0 (omega arith) (sym c.line_legal.ensures.answer ∙ c.if-not-line_legal.false), c.line_legal.ensures.passed c.if-not-line_legal.false)

pub returns : goal.returns
returns c = sym (legal_by_lines _ ∙ tested_all c.loop-number.invariant.0 (omega arith))
