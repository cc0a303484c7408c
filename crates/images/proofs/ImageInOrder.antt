-- What reading a whole image gives, check by check: its lines, then what stands behind the last of them, then whether they make a legal tree.
-- Assumes nothing.
use Prim.Native.Nat.{ℕ, ◌-◌, ◌*◌, ◌≤◌, ◌<◌}
use mathlib.Core.Path.{◌≡◌, sym, ap, ◌∙◌}
use mathlib.Core.Bool.{true, false, false≢true}
use mathlib.Core.List.{List}
use lib.ListN.{length, replicate}
use Rattle.bridge.proofs.RecordBlocks.{zeros_are_empty}
use Rattle.std.specs.Int.{div_ceil}
use Rattle.std.proofs.lemmas.Bool.{false_from_ne_true}
use borrow.Author.Tests.{lt-ltb, le-ltb, eq-eqb, ne_eqb}
use Rattle.tree.specs.Tree.{nothing}
use Rattle.tree.specs.Refusals.{first_refusal}
use Rattle.tree.specs.Record.{legal, record_of}
use Rattle.tree.specs.Calls.{gives, refuses, gives_unless}
use Rattle.tree.specs.Bits.{number_at, bytes_for, bits_of}
use Rattle.tree.specs.ImageReading.{Part, read_plan, legal_lines, tree_of_lines, behind_refusal, read_outcome}
use Rattle.tree.specs.Image.{PlanLine}
use Rattle.bridge.proofs.RecordRoundTrip.{record_legal}
use Rattle.bridge.specs.Rows.{plan_given}
use Rattle.images.specs.Parts.{rows_with, LinesGiven}
use Rattle.images.specs.declared.read.LinesRead.{LinesRead}
use Rattle.images.proofs.LineFits.{AllFit}
use Rattle.images.proofs.BitsOfBytes.{bits_are_bits, bytes_needed}
use Rattle.images.proofs.ReadBack.{lines_stand}
use Rattle.images.proofs.LinesOfTree.{lines_tree_legal}
use Rattle.images.proofs.RecordOfLines.{record_of_lines, record_of_legal_lines}
use Rattle.images.proofs.FieldsInOrder.{then_goes, then_refused}

module _ (bytes : List ℕ) where
  pub plan_refused : {n : ℕ} → read_plan (bits_of bytes) ≡ refuses n → plan_given (read_outcome bytes) ≡ refuses n
  unfolding plan_given read_outcome
  plan_refused h = ap plan_given (then_refused _ h)

  module _ {before after : List ℕ} {told : LinesRead} (read : LinesGiven (read_plan (bits_of bytes)) before after told) where
    plan : Part (List PlanLine)
    plan = record { value = read.lines; next = told.next }

    checked : read_outcome bytes ≡ gives_unless (behind_refusal bytes plan) (tree_of_lines read.lines)
    unfolding read_outcome plan
    checked = then_goes _ read.given

    -- The checks behind the last line, with the numbers that the code computes

    module _ {whole : ℕ} (whole_is : whole ≡ div_ceil told.next 8) where
      bytes_begun : bytes_for told.next ≡ whole
      bytes_begun = sym (whole_is ∙ bytes_needed told.next)

      pub surplus_bytes : whole < length bytes → plan_given (read_outcome bytes) ≡ refuses 13
      unfolding plan_given behind_refusal first_refusal gives_unless plan
      surplus_bytes more = rw (checked, bytes_begun, lt-ltb _ _ more)

      module _ (no_more : length bytes ≤ whole) {fill : ℕ} (fill_is : fill ≡ number_at (8 * whole - told.next) told.next (bits_of bytes)) where
        pub fill_bit_set : (fill ≡ 0 → ⊥) → plan_given (read_outcome bytes) ≡ refuses 14
        unfolding plan_given behind_refusal first_refusal gives_unless plan
        fill_bit_set set = rw (checked, bytes_begun, ← fill_is, le-ltb _ _ no_more, ne_eqb _ 0 set)

        module _ (no_fill : fill ≡ 0) where
          lines_illegal : legal_lines read.lines ≡ false → plan_given (read_outcome bytes) ≡ refuses 14
          unfolding plan_given behind_refusal first_refusal gives_unless plan
          lines_illegal no_tree = rw (checked, bytes_begun, ← fill_is, le-ltb _ _ no_more, eq-eqb _ 0 no_fill, no_tree)

          lines_are_legal : legal_lines read.lines ≡ true → plan_given (read_outcome bytes) ≡ gives (record_of (tree_of_lines read.lines))
          unfolding plan_given behind_refusal first_refusal gives_unless plan
          lines_are_legal a_tree = rw (checked, bytes_begun, ← fill_is, le-ltb _ _ no_more, eq-eqb _ 0 no_fill, a_tree)

          -- the numbers of the lines do not rise
          pub lines_fall : told.rising ≡ false → plan_given (read_outcome bytes) ≡ refuses 14
          unfolding legal_lines
          lines_fall falls = lines_illegal (rw (sym read.rising_is ∙ falls))

          -- The record into which they were read

          fit : AllFit read.lines
          fit = (lines_stand (bits_of bytes) _ (bits_are_bits bytes) read.given).fit

          module _ (zeros : before ≡ replicate 1408 0) where
            rows_are : after ≡ rows_with read.lines (record_of nothing).rows
            rows_are = read.rows_are ∙ ap (rows_with read.lines) (zeros ∙ zeros_are_empty)

            record_is : legal_lines read.lines ≡ true → after ≡ (record_of (tree_of_lines read.lines)).rows
            record_is a_tree = rows_are ∙ record_of_lines read.lines fit a_tree

            pub record_illegal : legal after ≡ false → plan_given (read_outcome bytes) ≡ refuses 14
            record_illegal h =
                lines_illegal (false_from_ne_true _ λ a_tree.
                false≢true (sym h ∙ ap legal (record_is a_tree) ∙ record_legal (tree_of_lines read.lines) (lines_tree_legal read.lines fit a_tree)))

            pub record_given : told.rising ≡ true → legal after ≡ true → plan_given (read_outcome bytes) ≡ gives (record { rows = after })
            record_given rises h =
                let a_tree = record_of_legal_lines read.lines fit (rw read.rising_is at rises) (rw rows_are at h) in
                lines_are_legal a_tree ∙ ap (λ (rows : List ℕ). gives (record { rows = rows })) (sym (record_is a_tree))
