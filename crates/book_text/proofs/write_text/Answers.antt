-- `write_text` meets its contract: no room, or the whole text.
-- Assumes nothing.
use Rattle.std.proofs.Common.{arith}
use Rattle.book_text.proofs.TextLength.{book_text_length}
use Rattle.book_text.proofs.write_text.Goals as goal

pub append_book-requires : goal.append_book-requires
append_book-requires c = omega (arith, book_text_length c.args.input.now)
