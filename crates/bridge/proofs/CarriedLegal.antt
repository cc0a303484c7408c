-- A call on a legal record leaves a legal record, whose tree is the one that the rules leave.
-- Assumes nothing.
use Prim.Native.Nat.{ℕ}
use mathlib.Core.Path.{◌≡◌, refl}
use mathlib.Core.Bool.{true}
use mathlib.Core.List.{List}
use Rattle.std.specs.Prelude.{Option, None, Some}
use Rattle.tree.specs.Tree.{Tree, nothing}
use Rattle.tree.specs.Shape.{Legal}
use Rattle.tree.specs.Calls.{Call, open_line, close_line, Answer, refusal, carried_out, tree_unless, after}
use Rattle.tree.specs.Record.{legal, record_of}
use Rattle.tree.proofs.Checks.{open_may}
use Rattle.tree.proofs.Opening.{opened_legal}
use Rattle.tree.proofs.Closing.{closed_legal}
use Rattle.bridge.specs.Rows.{tree_of_rows, rows_unless, rows_after, CarriedOut, LegalWith}
use Rattle.bridge.proofs.TreeOfRecord.{legal_on_record}
use Rattle.bridge.proofs.RecordRoundTrip.{record_legal, record_has_tree}

-- the tree that a call leaves which is not refused is legal
pub carried_out_legal : (c : Call) (t : Tree) → Legal t → refusal c t ≡ None → Legal (carried_out c t)
unfolding refusal carried_out
carried_out_legal (open_line L p) t is_legal allowed = opened_legal L p t (open_may L p t is_legal allowed)
carried_out_legal (close_line L) t is_legal allowed = closed_legal L t is_legal

pub recorded : (t : Tree) → Legal t → LegalWith (record_of t).rows t
unfolding tree_of_rows
recorded t is_legal = record { is_legal = record_legal t is_legal; tree_is = record_has_tree t is_legal }

-- the record of the empty plan
pub empty_recorded : LegalWith (record_of nothing).rows nothing
unfolding Legal
empty_recorded = recorded nothing tt

pub carried_legal : (c : Call) (before left : List ℕ) (a : Answer) → legal before ≡ true → CarriedOut c before left a → LegalWith left (after c (tree_of_rows before))
unfolding after tree_unless rows_after rows_unless
carried_legal c before left a is_legal carried = rw carried.rows_are (by_refusal (refusal c t) refl)
  where
    t : Tree
    t = tree_of_rows before

    by_refusal : (o : Option ℕ) → refusal c t ≡ o →
        LegalWith (rows_unless o before (record_of (carried_out c t)).rows) (tree_unless o t (carried_out c t))
    by_refusal (Some n) e = record { is_legal = is_legal; tree_is = refl }
    by_refusal None e = recorded (carried_out c t) (carried_out_legal c t (legal_on_record before) e)
