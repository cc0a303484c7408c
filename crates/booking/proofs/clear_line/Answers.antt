-- `booking::clear_line` meets its contract: the line's 22 numbers are filled with 0, and so are those of a line without rows.
-- Assumes nothing.
use Prim.Native.Nat.{ℕ, ◌*◌, ◌<◌}
use native.Mathlib.Omega.{arith}
use borrow.Rule.Slice.PartMut.{mid_of, put_mid}
use mathlib.Core.Path.{◌≡◌}
use mathlib.Core.List.{List, []}
use lib.ListN.{length, drop, replicate, length-drop}
use lib.Seq.{length-take-le, drop-drop}
use Rattle.tree.specs.Asking.{rows_11}
use Rattle.tree.specs.Record.{numbers}
use Rattle.paths.specs.Rules.{set_line}
use Rattle.booking.proofs.clear_line.Goals as goal

filled_line : (rows zeros : List ℕ) (L n : ℕ) → L < 64 → length rows ≡ 1408 → n ≡ 22 → zeros ≡ replicate (length (mid_of (22 * L) n rows)) 0 → put_mid (22 * L) n rows zeros ≡ set_line rows L []
unfolding set_line numbers rows_11
filled_line rows zeros L n below size all filled =
    rw (filled, all, length-take-le 22 (drop (22 * L) rows) (simp length-drop (omega arith)), drop-drop 22 (22 * L) rows)

pub returns : goal.returns
returns c = filled_line _ _ _ _ c.args.line.below_64 c.told-rows (omega arith) (c.fill.ensures.after (λ y same. same))
