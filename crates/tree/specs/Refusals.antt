-- The checks of each call, in their sequence (document 01, Who brings a refusal about; those of reason by document 02, Ask 7).
-- Assumes nothing.
use Rattle.std.specs.Prelude.{ℕ, Bool, not, ◌&&◌, ◌||◌, List, [], ◌∷◌, ◌++◌, eqb, ltb, if◌then◌else◌, Option, None, Some}
use Rattle.tree.specs.Numbers.{divides}
use Rattle.tree.specs.Search.{found}
use Rattle.tree.specs.Tree.{Tree, present, is_open, Place, at, step}
use Rattle.tree.specs.Opening.{chosen}
use Rattle.tree.specs.Reason.{is_node, has_class, line_in_class}

-- a check: its number, and whether it refuses the call
pub data Check : Type 0 where
  refuse : ℕ → Bool → Check

-- the number of the first check that refuses
unfoldable pub first_refusal : List Check → Option ℕ
first_refusal [] = None
first_refusal (refuse n strikes ∷ checks) = if strikes then Some n else first_refusal checks

-- (Refusals, 1)
unfoldable pub line_above_63 : ℕ → Bool
line_above_63 L = ltb 63 L

-- (Refusals, 2)
unfoldable pub period_out_of_range : ℕ → Bool
period_out_of_range p = eqb p 0 || ltb 4095 p

-- (Refusals, 5) The plan is not empty and no node is a candidate.
unfoldable pub no_room : ℕ → Tree → Bool
no_room p t = present t && not (found (chosen p t))

-- (Refusals, 3; The lists of demand 3, 17) The checks of an open before 5, for a line that is open or not.
unfoldable pub earlier_checks : ℕ → ℕ → Bool → List Check
earlier_checks L p line_open =
    refuse 1 (line_above_63 L) ∷ refuse 2 (period_out_of_range p) ∷ refuse 3 line_open ∷ []

-- (Refusals, sequence) Open: 1, 2, 3, 5.
unfoldable pub open_refusal : ℕ → ℕ → Tree → Option ℕ
open_refusal L p t = first_refusal (earlier_checks L p (is_open L t) ++ (refuse 5 (no_room p t) ∷ []))

-- (Refusals, 4, sequence) Close, show, turns: 1, 4.
unfoldable pub line_refusal : ℕ → Tree → Option ℕ
line_refusal L t = first_refusal (refuse 1 (line_above_63 L) ∷ refuse 4 (not (is_open L t)) ∷ [])

-- (Ask 7, 4) Reason: 2, 10 and, where the node's step divides the period, 11, 12.
unfoldable pub reason_refusal : ℕ → Place → ℕ → Tree → Option ℕ
reason_refusal p a i t =
    let m = step a t in
    let here = at a t in
    first_refusal (
    refuse 2 (period_out_of_range p)
    ∷ refuse 10 (not (is_node here))
    ∷ refuse 11 (divides m p && not (has_class p m here i))
    ∷ refuse 12 (divides m p && not (found (line_in_class p m here i)))
    ∷ []
    )
