-- What a part of an image gives where its own parts give, and that it is refused with the first of them that is refused.
-- Assumes nothing.
use Prim.Native.Nat.{ℕ, zero, suc, ◌+◌, ◌<◌}
use native.Mathlib.Omega.{arith}
use native.Mathlib.Numerals.{add-one}
use native.Mathlib.Decide.{ℕ_discrete}
use mathlib.Core.Path.{◌≡◌, refl, ◌∙◌}
use mathlib.Core.List.{List, [], ◌∷◌, ◌++◌}
use Rattle.tree.specs.declared.Row.{Row}
use Rattle.tree.specs.Tree.{row}
use Rattle.tree.specs.Calls.{gives, refuses}
use Rattle.tree.specs.Image.{PlanLine}
use Rattle.tree.specs.ImageReading.{Part, read_field, read_row, read_path, read_line, read_lines, read_plan}
use Rattle.images.proofs.FieldsInOrder.{then_goes, then_refused}

module _ (bits : List ℕ) (at : ℕ) where
  -- A row

  pub weight_refused : {n : ℕ} → read_field 12 1 4095 bits at ≡ refuses n → read_row bits at ≡ refuses n
  unfolding read_row
  weight_refused h = then_refused _ h

  module _ {weight : Part ℕ} (weight_given : read_field 12 1 4095 bits at ≡ gives weight) where
    pub edge_refused : {n : ℕ} → read_field 12 0 4095 bits weight.next ≡ refuses n → read_row bits at ≡ refuses n
    unfolding read_row
    edge_refused h = then_goes _ weight_given ∙ then_refused _ h

    pub edge_given : {edge : Part ℕ} → read_field 12 0 4095 bits weight.next ≡ gives edge → read_row bits at ≡ gives (record { value = row weight.value edge.value; next = edge.next })
    unfolding read_row
    edge_given h = then_goes _ weight_given ∙ then_goes _ h

  -- A path

  pub no_row_given : read_path 0 bits at ≡ gives (record { value = []; next = at })
  unfolding read_path
  no_row_given = refl

  module _ (k : ℕ) {above : Part (List Row)} (above_given : read_path k bits at ≡ gives above) where
    pub row_given : {r : Part Row} → read_row bits above.next ≡ gives r → read_path (k + 1) bits at ≡ gives (record { value = above.value ++ (r.value ∷ []); next = r.next })
    unfolding read_path
    row_given h = rw add-one (then_goes _ above_given ∙ then_goes _ h)

    pub row_refused : {n : ℕ} → read_row bits above.next ≡ refuses n → (count : ℕ) → k < count → read_path count bits at ≡ refuses n
    unfolding read_path
    row_refused h zero later = absurd (omega arith)
    row_refused h (suc count) later =
        elim (ℕ_discrete k count) [
          | yes e ↦ rw (← e) (then_goes _ above_given ∙ then_refused _ h)
          | no before ↦ then_refused _ (row_refused h count (omega arith))
        ]

  -- A line

  pub number_refused : {n : ℕ} → read_field 6 0 63 bits at ≡ refuses n → read_line bits at ≡ refuses n
  unfolding read_line
  number_refused h = then_refused _ h

  module _ {number : Part ℕ} (number_given : read_field 6 0 63 bits at ≡ gives number) where
    pub count_refused : {n : ℕ} → read_field 4 1 11 bits number.next ≡ refuses n → read_line bits at ≡ refuses n
    unfolding read_line
    count_refused h = then_goes _ number_given ∙ then_refused _ h

    module _ {count : Part ℕ} (count_given : read_field 4 1 11 bits number.next ≡ gives count) where
      pub path_refused : {n : ℕ} → read_path count.value bits count.next ≡ refuses n → read_line bits at ≡ refuses n
      unfolding read_line
      path_refused h = then_goes _ number_given ∙ then_goes _ count_given ∙ then_refused _ h

      pub path_given : {path : Part (List Row)} → read_path count.value bits count.next ≡ gives path →
          read_line bits at ≡ gives (record { value = record { number = number.value; path = path.value }; next = path.next })
      unfolding read_line
      path_given h = then_goes _ number_given ∙ then_goes _ count_given ∙ then_goes _ h

  -- Lines

  pub no_line_given : read_lines 0 bits at ≡ gives (record { value = []; next = at })
  unfolding read_lines
  no_line_given = refl

  module _ (k : ℕ) {earlier : Part (List PlanLine)} (earlier_given : read_lines k bits at ≡ gives earlier) where
    pub line_given : {line : Part PlanLine} → read_line bits earlier.next ≡ gives line → read_lines (k + 1) bits at ≡ gives (record { value = earlier.value ++ (line.value ∷ []); next = line.next })
    unfolding read_lines
    line_given h = rw add-one (then_goes _ earlier_given ∙ then_goes _ h)

    pub line_refused : {n : ℕ} → read_line bits earlier.next ≡ refuses n → (count : ℕ) → k < count → read_lines count bits at ≡ refuses n
    unfolding read_lines
    line_refused h zero later = absurd (omega arith)
    line_refused h (suc count) later =
        elim (ℕ_discrete k count) [
          | yes e ↦ rw (← e) (then_goes _ earlier_given ∙ then_refused _ h)
          | no before ↦ then_refused _ (line_refused h count (omega arith))
        ]

-- The lines of an image

module _ (bits : List ℕ) where
  pub number_of_lines_refused : {n : ℕ} → read_field 7 0 64 bits 0 ≡ refuses n → read_plan bits ≡ refuses n
  unfolding read_plan
  number_of_lines_refused h = then_refused _ h

  pub lines_counted : {count : Part ℕ} → read_field 7 0 64 bits 0 ≡ gives count → read_plan bits ≡ read_lines count.value bits count.next
  unfolding read_plan
  lines_counted h = then_goes _ h
