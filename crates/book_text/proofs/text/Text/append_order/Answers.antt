-- `append_order` meets its contract: the fields, and the parts of the two answer bytes.
-- Assumes nothing.
use Rattle.book_text.proofs.text.Text.append_order.Goals as goal

pub append_line-requires : goal.append_line-requires
append_line-requires c = rw c.fields-fields.ensures c.requires

pub returns : goal.returns
returns c = rw c.fields-fields.ensures at c.append_line.ensures
