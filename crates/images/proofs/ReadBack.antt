-- The lines of an image are read back, and what was read of bits are the lines whose bits stand there.
-- Assumes nothing.
use Prim.Native.Nat.{ℕ, zero, suc, ◌<◌, ◌≤◌}
use native.Mathlib.Omega.{arith}
use native.Mathlib.Numerals.{add-one}
use mathlib.Core.Path.{◌≡◌, refl, sym, ap, ◌∙◌}
use mathlib.Core.List.{List, [], ◌∷◌, ◌++◌}
use lib.ListN.{length, drop}
use Rattle.std.specs.Prelude.{Some}
use Rattle.std.proofs.lemmas.List.{drop_at, length_push}
use Rattle.std.proofs.lemmas.List.Elements.{All-nil, All-push, All-pop}
use Rattle.tree.specs.declared.Row.{Row}
use Rattle.tree.specs.Calls.{gives}
use Rattle.tree.specs.Bits.{field_bits}
use Rattle.tree.specs.Image.{PlanLine, path_bits, lines_bits, image_bits}
use Rattle.tree.specs.ImageReading.{Part, and_then, read_row, read_path, read_line, read_lines, read_plan}
use Rattle.images.proofs.LineFits.{RowFits, RowsFit, LineFits, AllFit}
use Rattle.images.proofs.BitsOfBytes.{EachBelow}
use Rattle.images.proofs.PartsRead.{then_given, field_given}
use Rattle.images.proofs.PartsEnd.{path_ends, line_ends}
use Rattle.images.proofs.ImageBits.{path_bits_both, one_row_bits, lines_bits_both, one_line_bits}
use Rattle.images.proofs.BitsStand.{BitsStand, nothing_stands, both_stand, each_stands, field_read, field_stands}

-- A list by its last element

last_of : {A : Type 0} (xs : List A) (n : ℕ) → length xs ≡ suc n → (front : List A) × (last : A) × (xs ≡ front ++ (last ∷ [])) × (length front ≡ n)
last_of [] n size = absurd (omega arith)
last_of (x ∷ []) n size = ([], x, refl, omega arith)
last_of (x ∷ (y ∷ ys)) zero size = absurd (omega arith)
last_of (x ∷ (y ∷ ys)) (suc n) size =
    let rest = last_of (y ∷ ys) n (omega arith) in
    (x ∷ rest.0, rest.1, ap (λ (zs : List _). x ∷ zs) rest.2, omega (arith, rest.3))

-- What stands is read

row_read : (r : Row) {bits : List ℕ} {at next : ℕ} → RowFits r → BitsStand (path_bits (r ∷ [])) bits at next → read_row bits at ≡ gives (record { value = r; next = next })
unfolding read_row and_then
row_read r fit stands =
    let parts = each_stands (field_bits 12 r.weight) (field_bits 12 r.edge) (rw one_row_bits at stands) in
    let weight = field_read 12 r.weight parts.0 (omega arith) 1 4095 (omega (arith, fit.weight_at_most)) fit.some_weight fit.weight_at_most in
    let edge = field_read 12 r.edge parts.1 (omega arith) 0 4095 (omega (arith, fit.edge_at_most)) (omega arith) fit.edge_at_most in
    rw (weight, edge) refl

path_read : (n : ℕ) (rs : List Row) {bits : List ℕ} {at next : ℕ} → length rs ≡ n → RowsFit rs → BitsStand (path_bits rs) bits at next →
    read_path n bits at ≡ gives (record { value = rs; next = next })
unfolding read_path and_then path_bits
path_read zero [] {bits} {at} {next} size fit stands = let here : at ≡ next = omega (arith, stands.next_is) in rw here refl
path_read zero (r ∷ rs) size fit stands = absurd (omega arith)
path_read (suc n) rs {bits} {at} {next} size fit stands =
    let split = last_of rs n size in
    let fits = All-pop RowFits rs split.0 (Some split.1) split.2 fit in
    let parts = each_stands (path_bits split.0) (path_bits (split.1 ∷ [])) (rw (split.2, path_bits_both split.0 (split.1 ∷ [])) at stands) in
    rw (path_read n split.0 split.3 fits.0 parts.0, row_read split.1 fits.1 parts.1)
    (ap (λ (qs : List Row). gives (record { value = qs; next = next })) (sym split.2))

line_read : (x : PlanLine) {bits : List ℕ} {at next : ℕ} → LineFits x → BitsStand (lines_bits (x ∷ [])) bits at next → read_line bits at ≡ gives (record { value = x; next = next })
unfolding read_line and_then
line_read x fit stands =
    let head = each_stands (field_bits 6 x.number) (field_bits 4 (length x.path) ++ path_bits x.path) (rw one_line_bits at stands) in
    let tail = each_stands (field_bits 4 (length x.path)) (path_bits x.path) head.1 in
    let number = field_read 6 x.number head.0 (omega arith) 0 63 fit.number_below (omega arith) (omega (arith, fit.number_below)) in
    let count = field_read 4 (length x.path) tail.0 (omega arith) 1 11 (omega (arith, fit.at_most_11)) fit.some_rows fit.at_most_11 in
    rw (number, count, path_read (length x.path) x.path refl fit.rows_fit tail.1) refl

lines_read : (n : ℕ) (xs : List PlanLine) {bits : List ℕ} {at next : ℕ} → length xs ≡ n → AllFit xs → BitsStand (lines_bits xs) bits at next →
    read_lines n bits at ≡ gives (record { value = xs; next = next })
unfolding read_lines and_then lines_bits
lines_read zero [] {bits} {at} {next} size fit stands = let here : at ≡ next = omega (arith, stands.next_is) in rw here refl
lines_read zero (x ∷ xs) size fit stands = absurd (omega arith)
lines_read (suc n) xs {bits} {at} {next} size fit stands =
    let split = last_of xs n size in
    let fits = All-pop LineFits xs split.0 (Some split.1) split.2 fit in
    let parts = each_stands (lines_bits split.0) (lines_bits (split.1 ∷ [])) (rw (split.2, lines_bits_both split.0 (split.1 ∷ [])) at stands) in
    rw (lines_read n split.0 split.3 fits.0 parts.0, line_read split.1 fits.1 parts.1)
    (ap (λ (ys : List PlanLine). gives (record { value = ys; next = next })) (sym split.2))

counted_lines_read : (xs : List PlanLine) {bits : List ℕ} {next : ℕ} → AllFit xs → length xs ≤ 64 → BitsStand (image_bits xs) bits 0 next →
    read_plan bits ≡ gives (record { value = xs; next = next })
unfolding read_plan and_then image_bits
counted_lines_read xs fit at_most_64 stands =
    let parts = each_stands (field_bits 7 (length xs)) (lines_bits xs) stands in
    rw (field_read 7 (length xs) parts.0 (omega arith) 0 64 (omega arith) (omega arith) at_most_64)
    (lines_read (length xs) xs refl fit parts.1)

pub lines_read_back : (xs : List PlanLine) (behind : List ℕ) → AllFit xs → length xs ≤ 64 →
    read_plan (image_bits xs ++ behind) ≡ gives (record { value = xs; next = length (image_bits xs) })
lines_read_back xs behind fit at_most_64 = counted_lines_read xs fit at_most_64 (record {
  next_is = omega arith;
  bits_are = ap (λ (more : List ℕ). image_bits xs ++ more) (sym (drop_at (image_bits xs) behind (length (image_bits xs)) refl));
})

-- What was read stands there

module _ (bits : List ℕ) (are_bits : EachBelow 2 bits) where
  row_stands : (at : ℕ) (p : Part Row) → read_row bits at ≡ gives p → RowFits p.value × BitsStand (path_bits (p.value ∷ [])) bits at p.next
  unfolding read_row
  row_stands at p h =
      let weight = then_given _ _ p h in
      let edge = then_given _ _ p weight.2 in
      let weight_read = field_given 12 1 4095 bits at weight.0 weight.1 in
      let edge_read = field_given 12 0 4095 bits weight.0.next edge.0 edge.1 in
      let is : p ≡ record { value = record { weight = weight.0.value; edge = edge.0.value }; next = edge.0.next } = cc in
      rw is (
        record { some_weight = weight_read.at_least; weight_at_most = weight_read.at_most; edge_at_most = edge_read.at_most },
        rw one_row_bits (both_stand (field_stands are_bits weight_read) (field_stands are_bits edge_read)),
      )

  record PathStands (at : ℕ) (p : Part (List Row)) : Type 0 where
    fit : RowsFit p.value
    stands : BitsStand (path_bits p.value) bits at p.next

  path_stands : (n at : ℕ) (p : Part (List Row)) → read_path n bits at ≡ gives p → PathStands at p
  unfolding read_path path_bits
  path_stands zero at p h =
      let is : p ≡ record { value = []; next = at } = cc in
      rw is (record { fit = All-nil RowFits; stands = nothing_stands bits at })
  path_stands (suc n) at p h =
      let above = then_given _ _ p h in
      let last = then_given _ _ p above.2 in
      let rows_above = path_stands n at above.0 above.1 in
      let last_row = row_stands above.0.next last.0 last.1 in
      let is : p ≡ record { value = above.0.value ++ (last.0.value ∷ []); next = last.0.next } = cc in
      rw is (record {
        fit = All-push RowFits above.0.value last.0.value rows_above.fit last_row.0;
        stands = rw (path_bits_both above.0.value (last.0.value ∷ [])) (both_stand rows_above.stands last_row.1);
      })

  record LineStands (at : ℕ) (p : Part PlanLine) : Type 0 where
    fit : LineFits p.value
    stands : BitsStand (lines_bits (p.value ∷ [])) bits at p.next

  line_stands : (at : ℕ) (p : Part PlanLine) → read_line bits at ≡ gives p → LineStands at p
  unfolding read_line
  line_stands at p h =
      let number = then_given _ _ p h in
      let count = then_given _ _ p number.2 in
      let rows = then_given _ _ p count.2 in
      let number_read = field_given 6 0 63 bits at number.0 number.1 in
      let count_read = field_given 4 1 11 bits number.0.next count.0 count.1 in
      let all_rows = (path_ends count.0.value bits count.0.next rows.0 rows.1).all_rows in
      let rows_stand = path_stands count.0.value count.0.next rows.0 rows.1 in
      let is : p ≡ record { value = record { number = number.0.value; path = rows.0.value }; next = rows.0.next } = cc in
      let number_below : number.0.value < 64 = rw is at (line_ends bits at p h).number_below in
      let count_stands : BitsStand (field_bits 4 (length rows.0.value)) bits number.0.next count.0.next = rw all_rows (field_stands are_bits count_read) in
      rw is (record {
        fit = record {
          number_below = number_below;
          some_rows = omega (arith, all_rows, count_read.at_least);
          at_most_11 = omega (arith, all_rows, count_read.at_most);
          rows_fit = rows_stand.fit;
        };
        stands = rw one_line_bits (both_stand (field_stands are_bits number_read) (both_stand count_stands rows_stand.stands));
      })

  record EachStands (n at : ℕ) (p : Part (List PlanLine)) : Type 0 where
    size : length p.value ≡ n
    fit : AllFit p.value
    stands : BitsStand (lines_bits p.value) bits at p.next

  each_line_stands : (n at : ℕ) (p : Part (List PlanLine)) → read_lines n bits at ≡ gives p → EachStands n at p
  unfolding read_lines lines_bits
  each_line_stands zero at p h =
      let is : p ≡ record { value = []; next = at } = cc in
      rw is (record { size = refl; fit = All-nil LineFits; stands = nothing_stands bits at })
  each_line_stands (suc n) at p h =
      let earlier = then_given _ _ p h in
      let last = then_given _ _ p earlier.2 in
      let earlier_lines = each_line_stands n at earlier.0 earlier.1 in
      let last_line = line_stands earlier.0.next last.0 last.1 in
      let is : p ≡ record { value = earlier.0.value ++ (last.0.value ∷ []); next = last.0.next } = cc in
      rw is (record {
        size = length_push earlier.0.value last.0.value ∙ add-one _ ∙ ap suc earlier_lines.size;
        fit = All-push LineFits earlier.0.value last.0.value earlier_lines.fit last_line.fit;
        stands = rw (lines_bits_both earlier.0.value (last.0.value ∷ [])) (both_stand earlier_lines.stands last_line.stands);
      })

pub record LinesStand (bits : List ℕ) (p : Part (List PlanLine)) : Type 0 where
  pub fit : AllFit p.value
  pub next_is : p.next ≡ length (image_bits p.value)
  pub bits_are : bits ≡ image_bits p.value ++ drop p.next bits

pub lines_stand : (bits : List ℕ) (p : Part (List PlanLine)) → EachBelow 2 bits → read_plan bits ≡ gives p → LinesStand bits p
unfolding read_plan image_bits
lines_stand bits p are_bits h =
    let count = then_given _ _ p h in
    let count_read = field_given 7 0 64 bits 0 count.0 count.1 in
    let each = each_line_stands bits are_bits count.0.value count.0.next p count.2 in
    let count_stands : BitsStand (field_bits 7 (length p.value)) bits 0 count.0.next = rw each.size (field_stands are_bits count_read) in
    let all = both_stand count_stands each.stands in
    record {
      fit = each.fit;
      next_is = omega (arith, all.next_is);
      bits_are = all.bits_are;
    }
