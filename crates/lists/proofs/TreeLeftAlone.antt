-- What is not carried out leaves the tree as it was: a call, an order, and a list none of whose orders is carried out.
-- Assumes nothing.
use Prim.Native.Nat.{ℕ}
use mathlib.Core.Path.{◌≡◌, refl, ◌∙◌}
use mathlib.Core.Bool.{false, true≢false}
use mathlib.Core.List.{List, [], ◌∷◌}
use Rattle.std.specs.Prelude.{Option, None, Some}
use Rattle.tree.specs.Tree.{Tree}
use Rattle.tree.specs.Calls.{Call, open_line, close_line, refusal, reply, carried_out, answer_unless, tree_unless, answer, after, Outcome, gives, refuses}
use Rattle.tree.proofs.Checks.{neither}
use Rattle.orders.specs.Reading.{reading}
use Rattle.lists.specs.Lists.{answer_read, after_read, order_answer, order_after, carried, list_answers, list_after, some_carried}

call_left_alone : (c : Call) (t : Tree) → carried (answer c t) ≡ false → after c t ≡ t
unfolding answer answer_unless reply after tree_unless carried
call_left_alone c t = by_refusal c (refusal c t)
  where
    by_refusal : (d : Call) (o : Option ℕ) → carried (answer_unless o (reply d t)) ≡ false → tree_unless o t (carried_out c t) ≡ t
    by_refusal d (Some n) h = refl
    by_refusal (open_line L p) None h = absurd (true≢false h)
    by_refusal (close_line L) None h = absurd (true≢false h)

order_left_alone : (o : Outcome Call) (t : Tree) → carried (answer_read o t) ≡ false → after_read o t ≡ t
unfolding answer_read after_read
order_left_alone (gives c) t h = call_left_alone c t h
order_left_alone (refuses n) t h = refl

pub list_left_alone : (ns : List ℕ) (t : Tree) → some_carried (list_answers t ns) ≡ false → list_after t ns ≡ t
unfolding list_answers list_after order_answer order_after some_carried
list_left_alone [] t h = refl
list_left_alone (n ∷ ns) t h =
    let both = neither (carried (order_answer n t)) (some_carried (list_answers (order_after n t) ns)) h in
    list_left_alone ns (order_after n t) both.1 ∙ order_left_alone (reading n) t both.0
