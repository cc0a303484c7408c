-- The numbers of nodes in common while they are listed, up to the end of the open lines: a closed line has none in common. Then the largest of them.
-- Assumes nothing.
use Prim.Native.Nat.{ℕ, ◌+◌, ◌<◌, ◌≤◌}
use native.Mathlib.Omega.{arith}
use native.Mathlib.Decide.{dec_lt}
use mathlib.Core.Path.{◌≡◌, sym, ◌∙◌}
use mathlib.Core.Bool.{true}
use mathlib.Core.List.{List}
use lib.ListN.{get_or, set, replicate}
use lib.Seq.{get_or-set_other, ext_get_or}
use Rattle.std.proofs.lemmas.List.{get_or-replicate}
use Rattle.tree.specs.declared.Row.{Row}
use Rattle.tree.specs.Record.{path_at, no_rows}
use Rattle.tree.specs.Search.{each_below}
use Rattle.tree.proofs.Searching.{each_below_length, each_below_at}
use Rattle.paths.proofs.RowLaws.{no_rows_empty}
use Rattle.paths.proofs.Filled.{Filled, filled_none, filled_more}
use Rattle.candidates.specs.Edges.{ClosedFrom}
use Rattle.joining.specs.Common.{nodes_in_common}
use Rattle.joining.proofs.NodesInCommon.{none_in_common}

module _ (rows : List ℕ) (ps : List Row) where
  abbrev pub number : ℕ → ℕ
  number M = nodes_in_common ps (path_at rows M)

  closed_number : (M : ℕ) → no_rows (path_at rows M) ≡ true → number M ≡ 0
  closed_number M is_closed = rw (no_rows_empty (path_at rows M) is_closed) (none_in_common ps)

-- the numbers of the lines below k are listed, and those from there on are still 0
pub record ListedTo (rows : List ℕ) (ps : List Row) (common : List ℕ) (k : ℕ) : Type 0 where
  pub listed : Filled 0 64 (number rows ps) common k
  pub zero_beyond : (M : ℕ) → k ≤ M → M < 64 → get_or common M 0 ≡ 0

pub listed_none : (rows : List ℕ) (ps : List Row) → ListedTo rows ps (replicate 64 0) 0
listed_none rows ps = record { listed = filled_none 0 64 (number rows ps) 0; zero_beyond = λ M past below. get_or-replicate 64 M 0 0 below }

module _ {rows : List ℕ} {ps : List Row} {common : List ℕ} {k : ℕ} (so_far : ListedTo rows ps common k) where
  pub listed_more : k < 64 → {n : ℕ} → n ≡ number rows ps k → ListedTo rows ps (set common k n) (k + 1)
  listed_more below {n} is = record {
    listed = filled_more so_far.listed below is;
    zero_beyond = λ M past within. get_or-set_other common k M n 0 (λ same. omega arith) ∙ so_far.zero_beyond M (omega arith) within;
  }

  pub listed_all : {end : ℕ} → ClosedFrom rows end → end ≤ k → common ≡ each_below 64 (number rows ps)
  listed_all {end} from past =
      ext_get_or 0 common (each_below 64 (number rows ps)) (so_far.listed.size ∙ sym (each_below_length 64 (number rows ps)))
      (λ M within. let below : M < 64 = omega (arith, so_far.listed.size) in at M below (dec_lt M k) ∙ sym (each_below_at 64 (number rows ps) M 0 below))
    where
      at : (M : ℕ) → M < 64 → Dec (M < k) → get_or common M 0 ≡ number rows ps M
      at M below (yes earlier) = so_far.listed.are M earlier
      at M below (no later) = so_far.zero_beyond M (omega arith) below ∙ sym (closed_number rows ps M (from.closed M (omega arith) below))

-- n is the largest of the numbers of the lines below k, or 0 where there is none
pub record LargestTo (common : List ℕ) (n k : ℕ) : Type 0 where
  pub none_larger : (M : ℕ) → M < k → get_or common M 0 ≤ n
  pub one_of_them : 0 < n → (M : ℕ) × (M < k) × (get_or common M 0 ≡ n)
