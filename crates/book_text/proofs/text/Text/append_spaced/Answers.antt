-- `append_spaced` meets its contract: the digits, then the space.
-- Assumes nothing.
use Rattle.book_text.proofs.Appending.{appended_both}
use Rattle.book_text.proofs.text.Text.append_spaced.Goals as goal

pub returns : goal.returns
returns c = appended_both _ _ c.append_decimal.ensures c.append.ensures
