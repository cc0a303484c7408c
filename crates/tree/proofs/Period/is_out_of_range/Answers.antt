-- `tree::Period::is_out_of_range` meets its contract: it is the check of refusal 2.
-- Assumes nothing.
use borrow.Author.Tests.{eq-eqb, ne_eqb}
use Rattle.tree.specs.Refusals.{period_out_of_range}
use Rattle.tree.proofs.Period.is_out_of_range.Goals as goal

pub returns-then-self-eq0 : goal.returns-then-self-eq0
unfolding period_out_of_range
returns-then-self-eq0 c = rw (eq-eqb _ _ c.if-self-eq0.true)

pub returns-else-self-eq0 : goal.returns-else-self-eq0
unfolding period_out_of_range
returns-else-self-eq0 c = rw (ne_eqb _ _ c.if-self-eq0.false)
