-- What a call that gives a tree gave (`plan_given`, specs/Rows.antt), read from the plan that it answered, or from the refusal.
-- Assumes nothing.
use Prim.Native.Nat.{ℕ}
use native.Mathlib.Omega.{arith}
use mathlib.Core.Path.{◌≡◌, refl, ap, sym}
use Rattle.tree.specs.declared.Plan.{Plan}
use Rattle.tree.specs.Tree.{Tree}
use Rattle.tree.specs.Calls.{Outcome, gives, refuses}
use Rattle.tree.specs.Record.{record_of}
use Rattle.bridge.specs.Rows.{plan_given}

-- the plan answered is that of the tree given
pub record TreeGiven (o : Outcome Tree) (plan : Plan) : Type 0 where
  pub tree : Tree
  pub given : o ≡ gives tree
  pub plan_is : plan ≡ record_of tree

pub tree_given_by : (o : Outcome Tree) (plan : Plan) → gives plan ≡ plan_given o → TreeGiven o plan
unfolding plan_given
tree_given_by (gives t) plan told = record { tree = t; given = refl; plan_is = cc }
tree_given_by (refuses n) plan told = let z : ◌≡◌ {A = ℕ} 0 1 = cc in absurd (omega arith)

pub refused_with : (o : Outcome Tree) (n : ℕ) → refuses n ≡ plan_given o → o ≡ refuses n
unfolding plan_given
refused_with (gives t) n told = let z : ◌≡◌ {A = ℕ} 0 1 = cc in absurd (omega arith)
refused_with (refuses k) n told = let same : n ≡ k = cc in ap refuses (sym same)
