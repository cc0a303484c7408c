-- `lists::run_order` meets its contract: the order cannot be read, or its call is refused or carried out.
-- Assumes nothing.
use Rattle.std.proofs.lemmas.Result.{err_from_is_err_and}
use Rattle.orders.specs.Reading.{call_told}
use Rattle.lines.specs.Answers.{open_answer, close_answer}
use Rattle.lists.specs.Runs.{answer_in}
use Rattle.lists.proofs.OneOrder.{order_read, order_unread}
use Rattle.lists.proofs.run_order.Goals as goal

pub returns-in_err-line : goal.returns-in_err-line
unfolding answer_in
returns-in_err-line c =
    let told = err_from_is_err_and c.from_residual.result c.from_residual.ensures.1 in
    rw (told.1, told.2) (order_unread _ _ _ c.requires c.in_err-line.ensures)

pub returns-in_err-open_line-in-Open : goal.returns-in_err-open_line-in-Open
unfolding call_told open_answer answer_in
returns-in_err-open_line-in-Open c =
    let told = err_from_is_err_and c.from_residual-in_err-open_line-in-Open.result c.from_residual-in_err-open_line-in-Open.ensures.1 in
    rw (told.1, told.2) (order_read _ _ _ _ _ _ c.requires c.in_ok-line.ensures c.in-Open.is c.in_err-open_line-in-Open.ensures)

pub returns-in_ok-open_line-in-Open : goal.returns-in_ok-open_line-in-Open
unfolding call_told open_answer answer_in
returns-in_ok-open_line-in-Open c =
    order_read _ _ _ _ _ _ c.requires c.in_ok-line.ensures c.in-Open.is c.in_ok-open_line-in-Open.ensures

pub returns-in_err-close_line-in-Close : goal.returns-in_err-close_line-in-Close
unfolding call_told close_answer answer_in
returns-in_err-close_line-in-Close c =
    let told = err_from_is_err_and c.from_residual-in_err-close_line-in-Close.result c.from_residual-in_err-close_line-in-Close.ensures.1 in
    rw (told.1, told.2) (order_read _ _ _ _ _ _ c.requires c.in_ok-line.ensures c.in-Close.is c.in_err-close_line-in-Close.ensures)

pub returns-in_ok-close_line-in-Close : goal.returns-in_ok-close_line-in-Close
unfolding call_told close_answer answer_in
returns-in_ok-close_line-in-Close c =
    order_read _ _ _ _ _ _ c.requires c.in_ok-line.ensures c.in-Close.is c.in_ok-close_line-in-Close.ensures
