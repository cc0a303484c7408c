-- `append_line` meets its contract: word by word.
-- Assumes nothing.
use Rattle.book_text.specs.BookText.{text_line}
use Rattle.book_text.specs.Writing.{line_printed}
use Rattle.book_text.proofs.Appending.{appended_both}
use Rattle.book_text.proofs.text.Text.append_line.Goals as goal

pub returns : goal.returns
unfolding line_printed text_line
returns c =
    appended_both _ _ c.append_spaced.ensures
    (appended_both _ _ c.append_spaced-2.ensures
    (appended_both _ _ c.append_spaced-3.ensures
    (appended_both _ _ c.append_spaced-4.ensures
    (appended_both _ _ c.append_spaced-5.ensures
    (appended_both _ _ c.append_start.ensures c.append.ensures)))))
