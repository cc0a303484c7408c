-- How far a part that was read goes: a row and a path end at a place that their widths give, a line, lines and an image no further than their most bits.
-- Also how many rows such a path has, and what such a line's number is below.
-- Assumes nothing.
use Prim.Native.Nat.{ℕ, zero, suc, ◌+◌, ◌*◌, ◌<◌, ◌≤◌}
use native.Mathlib.Omega.{arith}
use mathlib.Core.Path.{◌≡◌, refl, ap}
use mathlib.Core.List.{List}
use lib.ListN.{length, length-append}
use Rattle.tree.specs.declared.Row.{Row}
use Rattle.tree.specs.Calls.{gives}
use Rattle.tree.specs.Image.{PlanLine}
use Rattle.tree.specs.ImageReading.{Part, read_row, read_path, read_line, read_lines, read_plan}
use Rattle.images.specs.Parts.{most_line_bits, most_bits}
use Rattle.images.proofs.PartsRead.{then_given, field_given}

same_given : {A : Type 0} {a b : A} → gives a ≡ gives b → a ≡ b
same_given h = cc

row_end : (bits : List ℕ) (at : ℕ) (p : Part Row) → read_row bits at ≡ gives p → p.next ≡ at + 24
unfolding read_row
row_end bits at p h =
    let weight = then_given _ _ _ h in
    let edge = then_given _ _ _ weight.2 in
    let end_is = ap (λ (q : Part Row). q.next) (same_given edge.2) in
    omega (arith, (field_given _ _ _ _ _ _ weight.1).next_is, (field_given _ _ _ _ _ _ edge.1).next_is)

-- a path of so many rows
pub record PathEnds (count at : ℕ) (p : Part (List Row)) : Type 0 where
  pub next_is : p.next ≡ at + 24 * count
  pub all_rows : length p.value ≡ count

pub path_ends : (count : ℕ) (bits : List ℕ) (at : ℕ) (p : Part (List Row)) → read_path count bits at ≡ gives p → PathEnds count at p
unfolding read_path
path_ends zero bits at p h = rw (← same_given h) record { next_is = omega arith; all_rows = refl }
path_ends (suc count) bits at p h =
    let above = then_given _ _ _ h in
    let last = then_given _ _ _ above.2 in
    let above_ends = path_ends count bits at above.0 above.1 in
    let last_ends = row_end bits above.0.next last.0 last.1 in
    rw (← same_given last.2) record {
      next_is = omega (arith, above_ends.next_is, last_ends);
      all_rows = simp length-append (omega (arith, above_ends.all_rows));
    }

pub record LineEnds (at : ℕ) (p : Part PlanLine) : Type 0 where
  next_at_most : p.next ≤ at + most_line_bits
  pub number_below : p.value.number < 64

pub line_ends : (bits : List ℕ) (at : ℕ) (p : Part PlanLine) → read_line bits at ≡ gives p → LineEnds at p
unfolding read_line
line_ends bits at p h =
    let number = then_given _ _ _ h in
    let count = then_given _ _ _ number.2 in
    let path = then_given _ _ _ count.2 in
    let number_read = field_given _ _ _ _ _ _ number.1 in
    let count_read = field_given _ _ _ _ _ _ count.1 in
    let ends = path_ends _ _ _ _ path.1 in
    rw (← same_given path.2) record {
      next_at_most = omega (arith, number_read.next_is, count_read.next_is, count_read.at_most, ends.next_is);
      number_below = omega (arith, number_read.at_most);
    }

pub lines_end : (count : ℕ) (bits : List ℕ) (at : ℕ) (p : Part (List PlanLine)) → read_lines count bits at ≡ gives p → p.next ≤ at + most_line_bits * count
unfolding read_lines
lines_end zero bits at p h = rw (← same_given h) (omega arith)
lines_end (suc count) bits at p h =
    let earlier = then_given _ _ _ h in
    let last = then_given _ _ _ earlier.2 in
    let earlier_end = lines_end count bits at earlier.0 earlier.1 in
    rw (← same_given last.2) (omega (arith, earlier_end, (line_ends _ _ _ last.1).next_at_most))

pub plan_ends : (bits : List ℕ) (p : Part (List PlanLine)) → read_plan bits ≡ gives p → p.next ≤ most_bits
unfolding read_plan
plan_ends bits p h =
    let count = then_given _ _ _ h in
    let count_read = field_given _ _ _ _ _ _ count.1 in
    omega (arith, lines_end _ _ _ _ count.2, count_read.next_is, count_read.at_most)
