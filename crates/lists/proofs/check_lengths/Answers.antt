-- `lists::check_lengths` meets its contract: one law for each way that the checks can go.
-- Assumes nothing.
use mathlib.Core.Path.{sym, ◌∙◌}
use borrow.Author.Tests.{lt-ltb, le-ltb}
use Rattle.tree.specs.Answered.{number_of, refusal_in}
use Rattle.lists.specs.Lists.{room_refused}
use Rattle.lists.proofs.ListChecks.{unfit_length, too_little_room, checks_passed}
use Rattle.lists.proofs.check_lengths.Goals as goal

pub returns-then-length_refused : goal.returns-then-length_refused
unfolding refusal_in number_of
returns-then-length_refused c = sym (unfit_length _ _ (sym c.length_refused.ensures ∙ c.if-length_refused.true))

pub returns-then-room-length : goal.returns-then-room-length
unfolding refusal_in number_of room_refused
returns-then-room-length c = sym (too_little_room _ _ (sym c.length_refused.ensures ∙ c.if-length_refused.false) (lt-ltb _ _ c.if-room-length.true))

pub returns : goal.returns
unfolding refusal_in room_refused
returns c = sym (checks_passed _ _ (sym c.length_refused.ensures ∙ c.if-length_refused.false) (le-ltb _ _ c.if-room-length.false))
