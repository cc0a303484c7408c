-- `history::asked::open_explained` meets its contract, by what the open ensures and what was found before it.
-- Assumes nothing.
use Rattle.history.proofs.EachAsked.{open_asked}
use Rattle.history.proofs.asked.open_explained.Goals as goal

pub returns : goal.returns
returns c = open_asked _ _ _ _ _ c.open-opened.ensures.answer_is c.each_has_reason-each_has_reason.ensures
