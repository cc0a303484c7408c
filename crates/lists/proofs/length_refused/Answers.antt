-- `lists::length_refused` meets its contract: the two tests in turn.
-- Assumes nothing.
use mathlib.Core.Path.{sym}
use borrow.Author.Tests.{ne_eqb}
use Rattle.lists.proofs.ListChecks.{not_in_threes, in_threes}
use Rattle.lists.proofs.length_refused.Goals as goal

pub returns-then-length-ne0 : goal.returns-then-length-ne0
returns-then-length-ne0 c = rw (ne_eqb _ _ c.if-length-ne0.true) (sym (not_in_threes _ c.if-length-ne0.true))

pub returns-else-length-ne0 : goal.returns-else-length-ne0
returns-else-length-ne0 c = sym (in_threes _ c.if-length-ne0.false)
