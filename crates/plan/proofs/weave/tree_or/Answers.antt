-- `plan::weave::tree_or` meets its contract: a record that is no tree has the empty tree too.
-- Assumes nothing.
use mathlib.Core.Path.{◌≡◌, sym, ◌∙◌, ap}
use mathlib.Core.List.{List}
use Prim.Native.Nat.{ℕ}
use Rattle.std.specs.Prelude.{Option, None, Some}
use Rattle.std.specs.Option.{unwrap_or}
use Rattle.tree.specs.Tree.{nothing}
use Rattle.paths.specs.declared.record.TreeRecord.{TreeRecord}
use Rattle.paths.specs.Checked.{CheckedRecord}
use Rattle.bridge.specs.Rows.{tree_of_rows}
use Rattle.bridge.proofs.TreeOfRecord.{tree_of_illegal}
use Rattle.plan.proofs.weave.tree_or.Goals as goal

same_tree : (rows : List ℕ) (o : Option TreeRecord) (fresh : TreeRecord) → CheckedRecord rows o → tree_of_rows fresh.rows.now ≡ nothing →
    tree_of_rows (unwrap_or o fresh).rows.now ≡ tree_of_rows rows
unfolding CheckedRecord tree_of_rows
same_tree rows None fresh illegal empty = empty ∙ sym (tree_of_illegal (record { rows = rows }) illegal)
same_tree rows (Some checked) fresh same empty = ap tree_of_rows same

pub returns : goal.returns
returns c =
    ap (λ (tree : TreeRecord). tree_of_rows tree.rows.now) c.unwrap_or.ensures ∙ same_tree c.args.rows.now c.tree_record.result c.args.fresh c.tree_record.ensures c.requires
