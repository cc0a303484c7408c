-- `asking::rest::nearer_turn` meets its contract: a closed line leaves what there was, and of an open one the fewer rounds count.
-- Assumes nothing.
use Prim.Native.Nat.{min}
use mathlib.Core.Path.{◌≡◌, sym, ◌∙◌, ap}
use Rattle.std.specs.Prelude.{Some}
use Rattle.std.specs.Option.{option_map_or}
use Rattle.std.proofs.Common.{rules}
use Rattle.asking.proofs.NearestTurn.{nearer_closed, nearer_open}
use Rattle.asking.proofs.rest.nearer_turn.Goals as goal

pub returns-then-is_closed : goal.returns-then-is_closed
returns-then-is_closed c = sym (nearer_closed _ _ _ (sym c.is_closed.ensures ∙ c.if-is_closed.true))

pub returns : goal.returns
returns c =
    let fewer : c.map_or.result ≡ option_map_or (min c.until_turn-until.result) c.args.least c.until_turn-until.result = search rules in
    ap Some fewer ∙ sym (nearer_open _ _ _ (sym c.is_closed.ensures ∙ c.if-is_closed.false) c.times_of.ensures.0 c.times_of.ensures.1 c.until_turn-until.ensures)
