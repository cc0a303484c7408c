-- `asking::sheet::idle_rounds` meets its contract: the rounds that are idle are filtered and counted.
-- Assumes nothing.
use Prim.Native.Nat.{ℕ, ◌+◌}
use native.Mathlib.Nat.{sub-zero}
use mathlib.Core.Path.{◌∙◌}
use mathlib.Core.Bool.{not}
use Rattle.std.proofs.Common.{rules, tests}
use Rattle.std.proofs.lemmas.Iterator.{YieldsList-from_range}
use Rattle.std.proofs.lemmas.Iterator.Consumers.{count_from_yields_List, YieldsList-from_filter}
use Rattle.tree.specs.Asking.{owned}
use Rattle.tree.specs.Sheet.{idle_rounds}
use Rattle.bridge.specs.Rows.{tree_of_rows}
use Rattle.asking.proofs.SheetFigures.{filtered_count}
use Rattle.asking.proofs.sheet.idle_rounds.Goals as goal

pub returns : goal.returns
unfolding idle_rounds
returns c =
    let idle = λ (i : ℕ). not (owned (c.args.first + i) (tree_of_rows c.args.tree.rows.now)) in
    count_from_yields_List _ _ c.count.ensures.ran (YieldsList-from_filter _ idle (YieldsList-from_range 0 c.args.rounds _ (cc) (sub-zero _)) c.filter.ensures.closure (λ x r q k. search (rules, tests)))
    ∙ filtered_count idle c.args.rounds
