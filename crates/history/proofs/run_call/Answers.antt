-- `history::run_call` meets its contract, by that of open, for the period as it was asked, and that of close.
-- Assumes nothing.
use mathlib.Core.Path.{◌≡◌, refl}
use borrow.Author.Tests.{ne_eqb}
use Rattle.std.specs.Prelude.{Option, None, Some, Result, Ok, Err, IsOkAnd, MatchResult}
use Rattle.std.specs.Result.{result_and}
use Rattle.tree.specs.declared.Start.{Start}
use Rattle.tree.specs.declared.refusal.Refusal.{Refusal}
use Rattle.lines.specs.Answers.{open_answer, close_answer}
use Rattle.lists.specs.Runs.{answer_in}
use Rattle.history.specs.Replay.{call_of}
use Rattle.history.proofs.Replaying.{opened_as_asked}
use Rattle.history.proofs.run_call.Goals as goal

open_told : (a : Result Start Refusal) (b : Result (Option Start) Refusal) → MatchResult a (λ s. IsOkAnd b (λ o. o ≡ Some s)) (λ r. b ≡ Err r) → answer_in b ≡ open_answer a
unfolding answer_in open_answer
open_told (Ok s) (Ok o) told = rw told
open_told (Ok s) (Err r) told = elim told [ ]
open_told (Err r) b told = rw told

close_told : (a : Result Unit Refusal) → answer_in (result_and a (Ok None)) ≡ close_answer a
unfolding answer_in close_answer
close_told (Ok u) = refl
close_told (Err r) = refl

pub returns-then-kind-eq0 : goal.returns-then-kind-eq0
unfolding call_of
returns-then-kind-eq0 c =
    rw (c.if-kind-eq0.true, open_told _ _ c.map.ensures.cases) (opened_as_asked _ _ _ _ _ (rw c.period_asked.ensures at c.open-opened.ensures))

pub returns : goal.returns
unfolding call_of
returns c = rw (ne_eqb _ _ c.if-kind-eq0.false, c.and.ensures, close_told c.close-closed.result.answer) c.close-closed.ensures
