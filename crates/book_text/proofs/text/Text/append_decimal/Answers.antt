-- `append_decimal` meets its contract: a number of one digit.
-- Assumes nothing.
use Rattle.book_text.proofs.Decimal.{one_digit}
use Rattle.book_text.proofs.text.Text.append_decimal.Goals as goal

pub append-requires : goal.append-requires
append-requires c = rw (one_digit c.args.number c.if-number-lt10.true) at c.requires

pub returns-then-number-lt10 : goal.returns-then-number-lt10
returns-then-number-lt10 c = rw (one_digit c.args.number c.if-number-lt10.true) c.append.ensures
