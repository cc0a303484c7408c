-- The sheet adds up (specs/Sheet.antt), in every legal tree.
-- Assumes nothing.
use Rattle.std.specs.Prelude.{if◌then◌else◌, Option, None, Some}
use Prim.Native.Nat.{ℕ, ◌+◌, ◌<◌}
use native.Mathlib.Omega.{arith}
use mathlib.Core.Path.{◌≡◌, refl, sym, ◌∙◌}
use mathlib.Core.Bool.{Bool, true, false, true≢false, not-eq-not, not}
use lib.ListN.{replicate}
use Rattle.tree.specs.Search.{found, each_below, count_below}
use Rattle.tree.specs.Tree.{Tree, nothing, path, is_open}
use Rattle.tree.specs.Shape.{Legal}
use Rattle.tree.specs.Asking.{owner, is_line, owns, owned, turns}
use Rattle.tree.specs.Sheet.{line_turns, idle_rounds, sheet, turns_on, sheet_total}
use Rattle.tree.proofs.Searching.{each_below_at}
use Rattle.tree.proofs.Totals.{total_ones, total_plus, total_same, total_exchange, count_all, count_none, count_only}
use Rattle.tree.proofs.Proper.{legal_proper}
use Rattle.tree.proofs.Standing.{stands_open}
use Rattle.tree.proofs.Numbering.{owner_below_64}
use Rattle.tree.proofs.Ownership.{walk_owns, owns_exactly}

-- the turns of a line as the sheet lists them
pub turns_on_sheet : (a N : ℕ) (t : Tree) (L : ℕ) → L < 64 → turns_on (sheet a N t) L ≡ line_turns L a N t
unfolding turns_on sheet
turns_on_sheet a N t L below = each_below_at 64 (λ M. line_turns M a N t) L 0 below

module _ (t : Tree) (is_legal : Legal t) where
  -- a round's owner is an open line
  owner_open : (n L : ℕ) → owner n t ≡ Some L → is_open L t ≡ true
  owner_open n L named = stands_open L t _ _ (walk_owns L n t (legal_proper t is_legal) named).stands

  -- (Ask 5, 1) A closed line has no turns, so that the sheet lists Ask 1's figure of every line.
  pub closed_no_turns : (L a N : ℕ) → is_open L t ≡ false → turns L a N t ≡ 0
  unfolding turns
  closed_no_turns L a N closed = count_none N (λ i. owns L (a + i) t) (λ i. not-eq-not.0 (λ named.
      true≢false (sym (owner_open (a + i) L ((owns_exactly L (a + i) t).0 named)) ∙ closed)))

  pub line_turns_are : (L a N : ℕ) → line_turns L a N t ≡ turns L a N t
  unfolding line_turns
  line_turns_are L a N = by_test (is_open L t) refl
    where
      by_test : (b : Bool) → is_open L t ≡ b → (if b then turns L a N t else 0) ≡ turns L a N t
      by_test true here = refl
      by_test false closed = sym (closed_no_turns L a N closed)

  -- a round is one line's, or idle
  shared_out : (n : ℕ) → count_below 64 (λ L. owns L n t) + (if not (owned n t) then 1 else 0) ≡ 1
  unfolding owns is_line owned found
  shared_out n = by_owner (owner n t) refl
    where
      by_owner : (o : Option ℕ) → owner n t ≡ o → count_below 64 (λ L. is_line L o) + (if not (found o) then 1 else 0) ≡ 1
      by_owner None idle = rw (count_none 64 (λ L. false) (λ i. refl))
      by_owner (Some M) named = rw (count_only 64 M (owner_below_64 n t M is_legal named))

  -- (Ask 5, 3) The turns over all lines plus the idle rounds make N.
  pub sheet_adds_up : (a N : ℕ) → sheet_total (sheet a N t) ≡ N
  unfolding sheet_total sheet idle_rounds turns count_below
  sheet_adds_up a N =
      let listed = total_same 64 (turns_on (sheet a N t)) (λ L. turns L a N t) (λ L below. turns_on_sheet a N t L below ∙ line_turns_are L a N) in
      let by_rounds = total_exchange 64 N (λ L i. if owns L (a + i) t then 1 else 0) in
      let idle : ℕ → ℕ = λ i. if not (owned (a + i) t) then 1 else 0 in
      let whose : ℕ → ℕ = λ i. count_below 64 (λ L. owns L (a + i) t) in
      let both = total_plus N whose idle in
      let each = total_ones N (λ i. whose i + idle i) (λ i. shared_out (a + i)) in
      omega arith

-- (Ask 5, 1) In the empty plan every round is idle.
pub sheet_of_empty : (a N : ℕ) → sheet a N nothing ≡ record { turns = replicate 64 0; idle = N }
unfolding sheet line_turns is_open path found each_below idle_rounds owned owner
sheet_of_empty a N = rw (count_all N (λ i. true) (λ i. refl))
