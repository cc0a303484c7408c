-- The image written: its bits added from the first bit of the buffer on, or nothing where the buffer is too short.
-- Assumes nothing.
use Prim.Native.Nat.{ℕ, ◌<◌, ◌≤◌}
use mathlib.Core.Path.{◌≡◌, refl, sym, ◌∙◌, ap}
use mathlib.Core.List.{List}
use lib.ListN.{length}
use borrow.Author.Tests.{lt-ltb, le-ltb}
use Rattle.std.specs.Prelude.{Ok, Err}
use Rattle.std.specs.Int.{div_ceil}
use Rattle.tree.specs.declared.refusal.Refusal.TheVariants as refusal
use Rattle.tree.specs.Tree.{Tree}
use Rattle.tree.specs.Bits.{field_bits, bytes_for}
use Rattle.tree.specs.Image.{lines_below, lines_bits, image_bits, image, write_outcome, buffer_after}
use Rattle.tree.specs.Calls.{gives, refuses, gives_unless}
use Rattle.tree.specs.Refusals.{first_refusal}
use Rattle.tree.specs.Answered.{outcome_of, number_of}
use Rattle.images.specs.declared.write.Size.{Size}
use Rattle.images.specs.Added.{Adds}
use Rattle.images.specs.Images.{ImageWritten}
use Rattle.images.specs.Writing.{BitsWritten, Counted}
use Rattle.images.proofs.BitsOfBytes.{bytes_length, bytes_needed}
use Rattle.images.proofs.Adding.{adds_all, written_both, written_field}

module _ (t : Tree) where
  image_bytes : length (image t) ≡ bytes_for (length (image_bits (lines_below 64 t)))
  unfolding image
  image_bytes = bytes_length (image_bits (lines_below 64 t))

  module _ (before : List ℕ) {size : Size} (counted : Counted (lines_below 64 t) size) {n : ℕ} (read : n ≡ div_ceil size.bits 8) where
    length_answered : n ≡ length (image t)
    length_answered = read ∙ bytes_needed size.bits ∙ ap bytes_for counted.bits_are ∙ sym image_bytes

    writing_refused : length before < n → write_outcome (length before) t ≡ refuses 8
    unfolding write_outcome first_refusal gives_unless
    writing_refused short = rw (lt-ltb _ _ (rw length_answered at short))

    writing_given : n ≤ length before → write_outcome (length before) t ≡ gives (length (image t))
    unfolding write_outcome first_refusal gives_unless
    writing_given room = rw (le-ltb _ _ (rw length_answered at room))

    pub buffer_too_short : length before < n → ImageWritten t before before (Err refusal.BufferTooShort)
    unfolding outcome_of number_of buffer_after
    buffer_too_short short = record { answer_is = sym (writing_refused short); buffer_is = rw (writing_refused short) }

    -- the number of lines was written, and then the lines
    module _ (between after : List ℕ) (number : Adds 0 (field_bits 7 size.lines) before between) (rest : Adds 7 (lines_bits (lines_below 64 t)) between after) where
      image_added : Adds 0 (image_bits (lines_below 64 t)) before after
      unfolding image_bits
      image_added =
          let all_lines : BitsWritten 7 (lines_bits (lines_below 64 t)) between after _ = record { added = rest; next_is = refl } in
          rw (← counted.lines_are) (written_both (written_field 0 7 size.lines 7 number refl) all_lines).added

      pub image_written : n ≤ length before → ImageWritten t before after (Ok n)
      unfolding outcome_of buffer_after image
      image_written room = record {
        answer_is = rw (writing_given room) (ap gives length_answered);
        buffer_is = rw (writing_given room, image_bytes) (adds_all _ before after image_added);
      }
