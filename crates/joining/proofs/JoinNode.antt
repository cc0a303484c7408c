-- The lines through a node while it is joined on one line after the other: each is as it was until it is its turn.
-- Assumes nothing.
use Prim.Native.Nat.{ℕ, ◌+◌, ◌<◌}
use native.Mathlib.Omega.{arith}
use native.Mathlib.Nat.{le_refl}
use native.Mathlib.Numerals.{add-one}
use mathlib.Core.Path.{◌≡◌, sym}
use mathlib.Core.Bool.{Bool, true, false}
use mathlib.Core.List.{List}
use lib.ListN.{length}
use Rattle.tree.specs.Record.{row_at, path_at}
use Rattle.paths.specs.Rules.{set_line, set_lines, change_lines, join_path}
use Rattle.paths.proofs.Blocks.{row_at_by_block}
use Rattle.paths.proofs.ChangedLines.{block_not_yet}
use Rattle.booking.proofs.PathRows.{path_same, rest_unused_same}
use Rattle.joining.specs.Joinable.{JoinableOnLine, Joinable}

-- of the lines below n those that a test takes were joined at level l
module _ {start rows : List ℕ} {taken : ℕ → Bool} {l n : ℕ} (size : length start ≡ 1408) (joinable : Joinable start taken l) (below : n < 64) (same : rows ≡ change_lines start taken (join_path l) n) where
  -- line n is as it was
  not_reached : (k : ℕ) → k < 11 → row_at rows n k ≡ row_at start n k
  not_reached = row_at_by_block rows start n (rw same (block_not_yet start taken _ size n n (omega arith) (le_refl n)))

  path_kept : path_at rows n ≡ path_at start n
  path_kept = path_same rows start n not_reached

  pub still_joinable : taken n ≡ true → JoinableOnLine rows n l
  still_joinable is_taken =
      let before = joinable.on_line n below is_taken in
      record {
        goes_on = rw path_kept before.goes_on;
        in_range = rw path_kept before.in_range;
        rest_is_unused = rest_unused_same start rows n (λ k h. sym (not_reached k h)) before.rest_is_unused;
      }

  pub line_joined : taken n ≡ true → {new : List ℕ} → new ≡ set_line rows n (join_path l (path_at rows n)) → new ≡ change_lines start taken (join_path l) (n + 1)
  unfolding set_lines
  line_joined is_taken done = rw (add-one, is_taken, ← same, ← path_kept) done

  pub line_passed : taken n ≡ false → rows ≡ change_lines start taken (join_path l) (n + 1)
  unfolding set_lines
  line_passed other = rw (add-one, other) same
