-- `orders::pack` meets its contract: each return is one law of PackingChecks.
-- Assumes nothing.
use native.Mathlib.Omega.{arith}
use mathlib.Core.Path.{sym, ap, ◌∙◌}
use Rattle.tree.specs.Answered.{outcome_of, number_of}
use Rattle.tree.specs.Calls.{gives}
use Rattle.orders.specs.Order.{bytes_of}
use Rattle.orders.proofs.PackingChecks.{kind_refused, line_refused, period_refused, close_refused, packs}
use Rattle.orders.proofs.pack.Goals as goal

pub returns-in-2-to-18446744073709551615 : goal.returns-in-2-to-18446744073709551615
unfolding outcome_of number_of
returns-in-2-to-18446744073709551615 c = sym (kind_refused _ _ _ (omega arith))

pub returns-then-line-gt63 : goal.returns-then-line-gt63
unfolding outcome_of number_of
returns-then-line-gt63 c = sym (line_refused _ _ _ (omega arith) (omega arith))

pub returns-then-rounds-gt4095 : goal.returns-then-rounds-gt4095
unfolding outcome_of number_of
returns-then-rounds-gt4095 c = sym (period_refused _ _ _ (omega arith) (omega arith) (omega arith))

pub returns-then-rounds-ne0 : goal.returns-then-rounds-ne0
unfolding outcome_of number_of
returns-then-rounds-ne0 c = sym (close_refused _ _ _ (omega arith) (omega arith) (omega arith) (λ no_period. omega arith))

pub returns : goal.returns
unfolding outcome_of
returns c =
    ap gives (c.split.ensures ∙ ap bytes_of c.word_with.ensures)
    ∙ sym
    (packs _ _ _ record {
      kind_small = omega arith;
      line_small = omega arith;
      period_small = omega arith;
      close_plain = λ is_close. omega arith;
    })
