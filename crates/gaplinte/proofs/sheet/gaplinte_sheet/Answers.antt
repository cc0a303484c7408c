-- `gaplinte::sheet::gaplinte_sheet` meets its contract, by that of `plan::sheet::sheet`.
-- Assumes nothing.
use Prim.Native.Nat.{ℕ}
use native.Mathlib.Omega.{arith}
use mathlib.Core.Path.{◌≡◌, ◌∙◌, ap}
use mathlib.Core.List.{List, [], ◌∷◌, ◌++◌}
use lib.ListN.{length, set, length-drop}
use lib.Seq.{set-append_seam}
use borrow.Author.Rules.{rules}
use Rattle.tree.specs.Answered.{outcome_of}
use Rattle.gaplinte.specs.Served.{sheet_numbers}
use Rattle.gaplinte.proofs.Answering.{answer_read_back}
use Rattle.gaplinte.proofs.sheet.gaplinte_sheet.Goals as goal

-- the number behind the 64 turns is written
idle_behind : (turns behind : List ℕ) (idle : ℕ) → length turns ≡ 64 → length behind ≡ 1 → set (turns ++ behind) 64 idle ≡ turns ++ (idle ∷ [])
idle_behind turns [] idle size one = absurd (omega arith)
idle_behind turns (x ∷ []) idle size one = rw (← size) (set-append_seam turns x [] idle)
idle_behind turns (x ∷ y ∷ behind) idle size one = absurd (omega arith)

pub returns : goal.returns
unfolding outcome_of sheet_numbers
returns c =
    record {
      answer_is = answer_read_back _ _ c.number.ensures;
      sheet_is = rw c.copy_from_slice.ensures.after (idle_behind _ _ _ (search rules) (omega (arith, length-drop 64 c.args.sheet.now))) ∙ ap sheet_numbers c.sheet-made.ensures;
    }
