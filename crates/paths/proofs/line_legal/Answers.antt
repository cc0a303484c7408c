-- `paths::line_legal` meets its contract: the one check of a closed line, or the three checks of an open one, one after the other.
-- Assumes nothing.
use mathlib.Core.Path.{sym, ◌∙◌}
use Rattle.paths.proofs.LegalLines.{path_right, line_closed, line_fault, line_rest_fault, line_by_earlier}
use Rattle.paths.proofs.PassedLines.{closed_passed}
use Rattle.paths.proofs.line_legal.Goals as goal

pub closed_unused-requires : goal.closed_unused-requires
closed_unused-requires c = sym c.is_closed.ensures ∙ c.if-is_closed.true

pub returns-then-is_closed : goal.returns-then-is_closed
returns-then-is_closed c =
    let closed = sym c.is_closed.ensures ∙ c.if-is_closed.true in
    record { answer = c.closed_unused.ensures ∙ sym (line_closed _ _ closed); passed = λ right. closed_passed c.requires closed }

pub returns-in_default-clause-answer : goal.returns-in_default-clause-answer
returns-in_default-clause-answer c = sym (line_fault _ _ (sym c.check_path.ensures ∙ c.in_default.is))

pub rest_unused-requires : goal.rest_unused-requires
rest_unused-requires c = (path_right _ _ (sym c.check_path.ensures ∙ c.in-Some.is)).1

pub returns-then-not-rest_unused-clause-answer : goal.returns-then-not-rest_unused-clause-answer
returns-then-not-rest_unused-clause-answer c = sym (line_rest_fault _ _ _ (sym c.check_path.ensures ∙ c.in-Some.is) (sym c.rest_unused.ensures ∙ c.if-not-rest_unused.true))

pub returns-clause-answer : goal.returns-clause-answer
returns-clause-answer c = c.joins_passed.ensures.answer ∙ sym (line_by_earlier _ _ _ (sym c.check_path.ensures ∙ c.in-Some.is) (sym c.rest_unused.ensures ∙ c.if-not-rest_unused.false))
