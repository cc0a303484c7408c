-- The search along one path and over the lines (`SearchedTo`, specs/SearchedTo.antt): a path is left where nothing better is offered from there on.
-- Assumes nothing.
use Prim.Native.Nat.{ℕ, zero, suc, ◌+◌, ◌*◌, ◌<◌, ◌≤◌, ◌∣◌, zero-le}
use native.Mathlib.Omega.{arith}
use native.Mathlib.Nat.{le_refl, eq-or-lt_of_le, mul-le-mul_left, mul-dvd-mul_left, one-dvd, dvd_refl, dvd_trans, mod-eq-zero_of_dvd}
use native.Mathlib.Numerals.{add-one}
use mathlib.Core.Path.{◌≡◌, refl, sym, ◌∙◌}
use mathlib.Core.Logic.{inl, inr}
use mathlib.Core.Bool.{true, false, true≢false, not-eq-not}
use mathlib.Core.List.{List, [], ◌∷◌}
use Rattle.std.specs.Prelude.{Option, None}
use borrow.Author.Tests.{eq-eqb}
use lib.ListN.{length, take, replicate}
use Rattle.tree.specs.declared.Row.{Row}
use Rattle.tree.specs.Numbers.{divides}
use Rattle.tree.specs.Tree.{product, sum_from, sum}
use Rattle.tree.specs.Record.{row_at, path_at, no_rows, legal}
use Rattle.tree.proofs.Divisors.{divides_true}
use Rattle.tree.proofs.Standing.{sum_row}
use Rattle.paths.specs.Rules.{Spot, spot_at, best_on_path, best_of_lines}
use Rattle.paths.proofs.PathNumbers.{Carried, carried_start, carried_row, carried_below, carried_small}
use Rattle.paths.proofs.RowLaws.{no_rows_empty}
use Rattle.candidates.specs.Answers.{starts_by}
use Rattle.candidates.specs.Edges.{ClosedFrom}
use Rattle.candidates.specs.SearchedTo.{Reached, SearchedTo}
use Rattle.candidates.proofs.LinesEnd.{best_before_end}
use Rattle.candidates.proofs.NothingBetter.{NoBetter, none_no_better, starts_by_no_better, starts_by_later}
use Rattle.candidates.proofs.Spots.{step_not_dividing, offer_from_offset}
use Rattle.candidates.proofs.SeenNodes.{nothing_seen, none_earlier, seen_next_line, earlier_or_rest}

-- Farther down a path

-- the offset does not fall
offset_grows : (rs : List Row) (l k : ℕ) → l ≤ k → sum (take l rs) ≤ sum (take k rs)
unfolding sum sum_from
offset_grows [] zero k deeper = zero-le
offset_grows [] (suc l) zero deeper = zero-le
offset_grows [] (suc l) (suc k) deeper = zero-le
offset_grows (r ∷ rs) zero k deeper = zero-le
offset_grows (r ∷ rs) (suc l) zero deeper = absurd (omega arith)
offset_grows (r ∷ rs) (suc l) (suc k) deeper =
    rw (sum_row r (take l rs), sum_row r (take k rs)) (omega (arith, mul-le-mul_left r.weight (offset_grows rs l k (omega arith))))

-- the step is a multiple of the one above
step_multiple : (rs : List Row) (l k : ℕ) → l ≤ k → product (take l rs) ∣ product (take k rs)
unfolding product
step_multiple [] zero k deeper = one-dvd (product (take k []))
step_multiple [] (suc l) zero deeper = dvd_refl 1
step_multiple [] (suc l) (suc k) deeper = dvd_refl 1
step_multiple (r ∷ rs) zero k deeper = one-dvd (product (take k (r ∷ rs)))
step_multiple (r ∷ rs) (suc l) zero deeper = absurd (omega arith)
step_multiple (r ∷ rs) (suc l) (suc k) deeper = mul-dvd-mul_left _ r.weight (step_multiple rs l k (omega arith))

-- so where it does not divide p, no deeper one does
step_divides_no_more : (rs : List Row) (l k p : ℕ) → l ≤ k → divides (product (take l rs)) p ≡ false → divides (product (take k rs)) p ≡ false
unfolding divides
step_divides_no_more rs l k p deeper other =
    not-eq-not.0 λ divided. true≢false (sym (eq-eqb _ _ (mod-eq-zero_of_dvd _ (dvd_trans _ (step_multiple rs l k deeper) (divides_true _ p divided)))) ∙ other)

-- Along one path

-- the search along line L's path has come to level l, with step m and offset r there
pub record PathSearch (rows : List ℕ) (p L l m r : ℕ) (best : Option Spot) (seen : List ℕ) : Type 0 where
  pub carried : Carried rows L m r l
  pub searched : SearchedTo (path_at rows) p L l best seen

pub search_from_root : (rows : List ℕ) (p L : ℕ) {best : Option Spot} {seen : List ℕ} → SearchedTo (path_at rows) p L 0 best seen → PathSearch rows p L 0 1 0 best seen
search_from_root rows p L searched = record { carried = carried_start rows L; searched = searched }

module _ (rows : List ℕ) {p L l : ℕ} {best : Option Spot} {seen : List ℕ} (searched : SearchedTo (path_at rows) p L l best seen) where
  -- where the levels from l on offer nothing better, the best of the path is the best so far
  rest_no_better : (n : ℕ) → l ≤ n → ((k : ℕ) → l ≤ k → k < n → NoBetter (spot_at (path_at rows) p L k) best) → best_on_path (path_at rows) p (best_of_lines (path_at rows) p L) L n ≡ best
  unfolding best_on_path
  rest_no_better zero past worse = let here : l ≡ 0 = omega arith in sym (rw here at searched.best_is)
  rest_no_better (suc n) past worse =
      elim (eq-or-lt_of_le past) [
        | inl here ↦ sym (rw here at searched.best_is)
        | inr later ↦ rw (rest_no_better n (omega arith) (λ k past_l below. worse k past_l (omega arith))) (worse n (omega arith) (omega arith))
      ]

  -- and where the search would not come to them either, it goes on with the next line
  path_left :
      l ≤ length (path_at rows L) → ((k : ℕ) → l ≤ k → k < length (path_at rows L) → NoBetter (spot_at (path_at rows) p L k) best × (Reached p best (path_at rows L) k → ⊥)) →
      SearchedTo (path_at rows) p (L + 1) 0 best seen
  unfolding best_on_path best_of_lines
  path_left within gone = record {
    best_is = rw (add-one L) (sym (rest_no_better (length (path_at rows L)) within (λ k past there. (gone k past there).0)));
    nodes_seen = seen_next_line searched.nodes_seen;
    none_missed = λ M j earlier on reached. elim (earlier_or_rest M j earlier) [
      | inl before ↦ searched.none_missed M j before on reached
      | inr rest ↦ absurd ((gone j rest.1 (rw rest.0 at on)).1 (rw rest.0 at reached))
    ];
  }

-- a closed line offers nothing
pub closed_line_left : (rows : List ℕ) {p L : ℕ} {best : Option Spot} {seen : List ℕ} → SearchedTo (path_at rows) p L 0 best seen → no_rows (path_at rows L) ≡ true → SearchedTo (path_at rows) p (L + 1) 0 best seen
closed_line_left rows {L = L} searched closed =
    path_left rows searched zero-le (λ k past there. let none : k < 0 = rw (no_rows_empty (path_at rows L) closed) at there in absurd (omega arith))

module _ {rows : List ℕ} {p L l m r : ℕ} {best : Option Spot} {seen : List ℕ} (search : PathSearch rows p L l m r best seen) where
  pub path_at_end : length (path_at rows L) ≤ l → SearchedTo (path_at rows) p (L + 1) 0 best seen
  path_at_end past = path_left rows search.searched search.carried.within (λ k past_l there. absurd (omega arith))

  pub still_reached : divides m p ≡ true → starts_by best r ≡ false → Reached p best (path_at rows L) l
  still_reached divided in_time = record { divided = rw search.carried.product_is at divided; in_time = rw search.carried.sum_is at in_time }

  -- the offset is not below the best start so far
  pub offset_too_large : starts_by best r ≡ true → SearchedTo (path_at rows) p (L + 1) 0 best seen
  offset_too_large too_large =
      path_left rows search.searched search.carried.within λ k past there.
      let farther : r ≤ sum (take k (path_at rows L)) = omega (arith, search.carried.sum_is, offset_grows (path_at rows L) l k past) in (
        starts_by_no_better best r too_large (spot_at (path_at rows) p L k) (λ s offered. omega (arith, farther, offer_from_offset (path_at rows) p L k s offered)),
        λ reached. true≢false (sym (starts_by_later best r (sum (take k (path_at rows L))) farther too_large) ∙ reached.in_time),
      )

  -- the step does not divide the period
  pub step_too_far : divides m p ≡ false → SearchedTo (path_at rows) p (L + 1) 0 best seen
  step_too_far other =
      path_left rows search.searched search.carried.within λ k past there.
      let farther = step_divides_no_more (path_at rows L) l k p past (rw search.carried.product_is at other) in
      (rw (step_not_dividing (path_at rows) p L k farther) (none_no_better best), λ reached. true≢false (sym reached.divided ∙ farther))

  -- one level more
  pub path_search_more : l < length (path_at rows L) → {e w : ℕ} → e ≡ (row_at rows L l).edge → w ≡ (row_at rows L l).weight → {next : Option Spot} {after : List ℕ} →
      SearchedTo (path_at rows) p L (l + 1) next after → PathSearch rows p L (l + 1) (m * w) (r + e * m) next after
  path_search_more there read_edge read_weight searched = record { carried = carried_row search.carried there read_edge read_weight; searched = searched }

-- The numbers of the loop

module _ {rows : List ℕ} {p L l m r : ℕ} {best : Option Spot} {seen : List ℕ} (search : PathSearch rows p L l m r best seen) (is_legal : legal rows ≡ true) (line_below : L < 64) where
  pub path_step_positive : 0 < m
  path_step_positive = omega (arith, carried_below search.carried is_legal line_below)

  pub next_offset_small : l < length (path_at rows L) → {e : ℕ} → e ≡ (row_at rows L l).edge → r + e * m ≤ 4095
  next_offset_small there read = (carried_small (carried_row search.carried there read refl) is_legal line_below).1

  pub next_step_small : l < length (path_at rows L) → {w : ℕ} → w ≡ (row_at rows L l).weight → m * w ≤ 4095
  next_step_small there read = (carried_small (carried_row search.carried there refl read) is_legal line_below).0

-- Over the lines

pub search_first : (rows : List ℕ) (p : ℕ) → SearchedTo (path_at rows) p 0 0 None (replicate 2047 0)
unfolding best_on_path best_of_lines
search_first rows p = record { best_is = refl; nodes_seen = nothing_seen (path_at rows); none_missed = λ M j earlier. absurd (none_earlier M j earlier) }

-- the lines from `end` on are closed
pub search_last : (rows : List ℕ) {p n end : ℕ} {best : Option Spot} {seen : List ℕ} → SearchedTo (path_at rows) p n 0 best seen → ClosedFrom rows end → end ≤ n → n ≤ 64 → best ≡ best_of_lines (path_at rows) p 64
unfolding best_on_path
search_last rows {p = p} {n = n} searched from past within =
    searched.best_is ∙ best_before_end from p n past within ∙ sym (best_before_end from p 64 from.within (le_refl 64))
