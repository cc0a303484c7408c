use native.Mathlib.Omega.{arith}
use mathlib.Core.Path.{◌≡◌, refl}
use Rattle.std.specs.Prelude.{Option, None, Some, Result, Ok, Err}
use Rattle.std.specs.Result.{is_ok}
use Rattle.tree.specs.declared.Start.{Start}
use Rattle.tree.specs.declared.refusal.Refusal.{Refusal}
use Rattle.lists.specs.Lists.{carried}
use Rattle.lists.specs.Runs.{answer_in}
use Rattle.bridge.proofs.TreeOfRecord.{legal_on_record}
use Rattle.lists.proofs.AnswersFit.{order_answer_fits}
use Rattle.lists.proofs.OrdersInTurn.{next_taken, running_none, running_more, running_all}
use Rattle.lists.proofs.run_orders.Goals as goal

carried_is_ok : (answer : Result (Option Start) Refusal) → is_ok answer ≡ carried (answer_in answer)
unfolding carried answer_in
carried_is_ok (Ok (Some s)) = refl
carried_is_ok (Ok None) = refl
carried_is_ok (Err r) = refl

pub loop-k-init : goal.loop-k-init
loop-k-init c = running_none _ _ _ c.requires.is_legal

pub run_order-answer-requires : goal.run_order-answer-requires
run_order-answer-requires c = c.loop-k.invariant.is_legal

pub write_answer-requires-clause-result : goal.write_answer-requires-clause-result
write_answer-requires-clause-result c =
    rw c.run_order-answer.ensures.answer_is (order_answer_fits _ _ (legal_on_record _)).result_fits

pub loop-k-preserved : goal.loop-k-preserved
loop-k-preserved c =
    let next = next_taken _ _ _ _ _ c.as_chunks.ensures.front (omega arith) c.from.ensures in
    rw (c.write_answer.ensures, c.is_ok-any.ensures.value, carried_is_ok c.run_order-answer.result)
    (running_more _ _ _ _ _ _ _ _ _ _ c.loop-k.invariant next c.run_order-answer.ensures (omega arith))

pub returns : goal.returns
returns c = running_all _ _ _ _ _ _ _ c.loop-k.invariant (omega arith)
